-- Wires of the heads of queues, and how wide they are.
use Rattle.std.proofs.Common.{◌≡◌, ℕ, ◌+◌, ◌-◌, ◌*◌, ◌^◌, ◌<◌, ◌≤◌, Bool, true, false, List, length, get_or, refl, sym, ap, ◌∙◌, subst, arith, if◌then◌else◌}
use Rattle.std.specs.Prelude.{◌==◌, nat_lt}
use Rattle.std.proofs.Math.Nat.{pow-le-pow_right}
use Rattle.std.proofs.lemmas.List.{get_or_default}
use Rattle.std.proofs.lemmas.Nat.{pow-add}
use Rattle.tl_params.specs.declared.ops.Ack.{Ack}
use Rattle.tl_params.specs.declared.ops.Ack.TheVariants as answer
use Rattle.tl_params.specs.declared.ops.Op.{Op}
use Rattle.tl_params.specs.declared.ops.Op.TheVariants.{PutFull, PutPartial, Arithmetic, Logical, Get, Intent}
use Rattle.tl_params.specs.Codes.{code_of_ack, code_of_op}
use Rattle.tl_edge.specs.Messages.{brings_data, has_data}
use Rattle.net_cells.specs.Rules.{IsWidth}
use Rattle.net_build.specs.declared.types.Wire.{Wire}
use Rattle.net_build.specs.Bits.{wire_values}
use Rattle.net_build.specs.Built.{Built, IsWire}
use Rattle.net_build.specs.Values.{Later}
use Rattle.net_build.proofs.Steps.{wire_later}
use Rattle.net_lanes.specs.declared.places.Buses.{Buses}
use Rattle.net_lanes.specs.Lanes.{AreTwo}
use Rattle.net_queue.specs.declared.types.Queue.{Queue}
use Rattle.net_queue.specs.Queues.{IsOpen}
use Rattle.net_turns.specs.declared.types.Turn.{Turn}
use Rattle.net_turns.specs.declared.types.Turned.{Turned}
use Rattle.net_turns.specs.Turns.{IsTurned, lanes_in, lanes_out}
use Rattle.net_sides.proofs.Asked.{value_at}

-- opcodes of messages with data
pub asks_data : (op : Op) → nat_lt (code_of_op op) 4 ≡ has_data op
asks_data PutFull = refl
asks_data PutPartial = refl
asks_data Arithmetic = refl
asks_data Logical = refl
asks_data Get = refl
asks_data Intent = refl

pub answers_data : (ack : Ack) → (code_of_ack ack == 1) ≡ brings_data ack
answers_data answer.Ack = refl
answers_data answer.AckData = refl
answers_data answer.HintAck = refl

-- ---- wires of a row

pub row_wire : (old new : Built) (q : Queue) (hs : List Wire) (k : ℕ) (d : Wire) → Later old new → IsOpen old q → hs ≡ q.head → k < length q.head → IsWire new (get_or hs k d)
row_wire old new q hs k d g o e l = wire_later old new (get_or hs k d) g (subst (λ (ws : List Wire). IsWire old (get_or ws k d)) (sym e) (o.alike.one.each k d l).0)

pub row_width : (ws hs : List Wire) (k n : ℕ) (d : Wire) → hs ≡ ws → (get_or ws k d).width ≡ n → (get_or hs k d).width ≡ n
row_width ws hs k n d e h = ap (λ (xs : List Wire). (get_or xs k d).width) e ∙ h

pub row_value : (v : ℕ → ℕ) (ws hs : List Wire) (k : ℕ) (fields : List ℕ) (d : Wire) → hs ≡ ws → wire_values v ws ≡ fields → k < length fields → v (get_or hs k d).number ≡ get_or fields k 0
row_value v ws hs k fields d e f l = ap (λ (xs : List Wire). v (get_or xs k d).number) e ∙ value_at v ws k fields d f l

-- ---- widths

whole : (buses : Buses) → AreTwo buses → 2 ^ buses.narrow * 2 ^ (buses.wide - buses.narrow) ≡ 2 ^ buses.wide
whole buses t =
    let e : buses.narrow + (buses.wide - buses.narrow) ≡ buses.wide = omega (arith, t.order) in
    sym (pow-add 2 buses.narrow (buses.wide - buses.narrow)) ∙ ap (λ (n : ℕ). 2 ^ n) e

some_bytes : (n : ℕ) → 1 ≤ 2 ^ n
some_bytes n = pow-le-pow_right {n = 2} (omega arith) {i = 0} {j = n} (omega arith)

few_bytes : (n : ℕ) → n ≤ 3 → 2 ^ n ≤ 8
few_bytes n l = pow-le-pow_right {n = 2} (omega arith) {i = n} {j = 3} l

pub mask_widths : (buses : Buses) → AreTwo buses → IsWidth (2 ^ buses.narrow) × IsWidth (2 ^ buses.narrow * 2 ^ (buses.wide - buses.narrow))
mask_widths buses t =
    let a = some_bytes buses.narrow in
    let b = few_bytes buses.narrow (omega (arith, t.order, t.small)) in
    let c = some_bytes buses.wide in
    let d = few_bytes buses.wide t.small in
    let e = whole buses t in
    ((a, omega (arith, b)), subst IsWidth (sym e) (c, omega (arith, d)))

pub payload_widths : (buses : Buses) → AreTwo buses → IsWidth (8 * 2 ^ buses.narrow) × IsWidth (8 * 2 ^ buses.narrow * 2 ^ (buses.wide - buses.narrow))
payload_widths buses t =
    let a = some_bytes buses.narrow in
    let b = few_bytes buses.narrow (omega (arith, t.order, t.small)) in
    let c = some_bytes buses.wide in
    let d = few_bytes buses.wide t.small in
    let e : 8 * 2 ^ buses.narrow * 2 ^ (buses.wide - buses.narrow) ≡ 8 * 2 ^ buses.wide = assoc (2 ^ buses.narrow) (2 ^ (buses.wide - buses.narrow)) ∙ ap (λ (n : ℕ). 8 * n) (whole buses t) in
    ((omega (arith, a), omega (arith, b)), subst IsWidth (sym e) (omega (arith, c), omega (arith, d)))
  where
    assoc : (x y : ℕ) → 8 * x * y ≡ 8 * (x * y)
    assoc x y = omega arith

pub mask_out_width : (buses : Buses) (turns : Bool) → AreTwo buses → lanes_out turns (2 ^ buses.narrow) buses ≡ (if turns then 2 ^ buses.wide else 2 ^ buses.narrow)
mask_out_width buses true t = whole buses t
mask_out_width buses false t = refl

pub turned_row : (b : Built) (turns : Bool) (n m : ℕ) (t : Turn) (ws hs : List Wire) (k : ℕ) (e : Wire) (o : Turned) → hs ≡ ws → n ≡ m → k < length ws → IsTurned b turns n t (get_or hs k e) o → (d : Wire) → IsTurned b turns m t (get_or ws k d) o
turned_row b turns n m t ws hs k e o p q l h d =
    subst (λ (x : ℕ). IsTurned b turns x t (get_or ws k d) o) q
    (subst (λ (x : Wire). IsTurned b turns n t x o) (ap (λ (xs : List Wire). get_or xs k e) p ∙ get_or_default ws k e d l) h)
