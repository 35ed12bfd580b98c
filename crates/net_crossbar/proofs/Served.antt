-- Gates side by side, and the heads that they take.
use Rattle.std.proofs.Common.{◌≡◌, ℕ, ◌<◌, Bool, ◌||◌, List, [], ◌∷◌, length, map, get_or, refl, sym, ap, ◌∙◌, subst, arith}
use Rattle.std.specs.List.{list_any}
use Rattle.std.proofs.lemmas.List.{get_or-map, length-map}
use Rattle.net_build.specs.declared.types.Wire.{Wire}
use Rattle.net_build.specs.Bits.{AreBits}
use Rattle.net_build.specs.Built.{Built, IsBit}
use Rattle.net_build.specs.Columns.{no_wire}
use Rattle.net_build.specs.Values.{Adds, Later, Tells, high}
use Rattle.net_build.proofs.Folded.{bits_adds}
use Rattle.net_build.proofs.OpenedLists.{widths_later}
use Rattle.net_build.proofs.Steps.{bit_adds, tells_adds}
use Rattle.net_gate.specs.declared.types.Serving.{Serving}
use Rattle.net_gate.specs.Built.{AreServing}
use Rattle.net_gate.specs.Gates.{RestsAre}
use Rattle.net_queue.proofs.Relations.{machine_later}
use Rattle.net_crossbar.specs.declared.channel.Channel.{Channel}
use Rattle.net_crossbar.specs.Crossed.{AreGates}
use Rattle.net_crossbar.specs.Places.{AllAt}
use Rattle.net_crossbar.specs.Rests.{AreRests, beats_behind_head}
use Rattle.net_crossbar.specs.Serving.{AreWanted, GrantEach, IsServedBy, IsSingleGate, IsWanted, TellsTaken}
use Rattle.net_crossbar.proofs.Lists.{all_lifted, read_here}

pub wanted_adds : (old new : Built) (count : ℕ) (ws : List Wire) → Adds old new → IsWanted old count ws → IsWanted new count ws
wanted_adds old new count ws g h = record { bits = bits_adds old new ws g h.bits; long = h.long }

-- the row at a place
pub wanted_here : (old new : Built) (count : ℕ) (wants : List (List Wire)) (place : ℕ) (row x : List Wire) → place < length wants → row ≡ x → x ≡ get_or wants place x → Adds old new → AreWanted old count wants → IsWanted new count row
wanted_here old new count wants place row x l e f g h = subst (IsWanted new count) (sym (read_here wants place row x [] l e f)) (wanted_adds old new count (get_or wants place []) g (h.at place [] l))

rests_back : (old new : Built) (rest : List ℕ → ℕ) (most : ℕ) (wants : List Wire) (rows : List (List Wire)) (rests : List Wire) → Later old new → RestsAre old rest most wants rows rests → RestsAre new rest most wants rows rests
rests_back old new rest most wants rows rests g h = record { at = λ v k d e s l w m. h.at v k d e (g.back v s) l w m }

-- built by what was told earlier, and still so later
pub served_later : (start old new : Built) (round : Bool) (rows : List (List Wire)) (rests wants : List Wire) (ready : Wire) (s : Serving) → Adds old new → IsServedBy start old round rows rests wants ready s → IsServedBy start new round rows rests wants ready s
served_later start old new round rows rests wants ready s g h = record { gate = λ rest most t. machine_later _ _ _ _ _ _ old new g.later (h.gate rest most t) }

pub served_here : (start old new : Built) (round : Bool) (rows : List (List Wire)) (rests : List Wire) (wants : List (List Wire)) (readies : List Wire) (place : ℕ) (row x : List Wire) (s : Serving) → place < length wants → row ≡ x → x ≡ get_or wants place x → Adds start old
    → IsServedBy old new round rows rests row (get_or readies place no_wire) s → IsServedBy start new round rows rests (get_or wants place []) (get_or readies place no_wire) s
served_here start old new round rows rests wants readies place row x s l e f g h =
    subst (λ (ws : List Wire). IsServedBy start new round rows rests ws (get_or readies place no_wire) s) (read_here wants place row x [] l e f)
    (record { gate = λ rest most t. h.gate rest most (rests_back start old rest most row rows rests g.later t) })

-- a gate of one head is one later too
pub single_later : (old new : Built) (rows : List (List Wire)) (wants : List Wire) (ready : Wire) (s : Serving) → Adds old new → IsSingleGate old rows wants ready s → IsSingleGate new rows wants ready s
single_later old new rows wants ready s g h = record { gate = λ round rest most. machine_later _ _ _ _ _ _ old new g.later (h.gate round rest most) }

-- the gate of a place is one by the row that stands there
pub single_here : (b : Built) (rows wants : List (List Wire)) (readies : List Wire) (place : ℕ) (row x : List Wire) (s : Serving) → place < length wants → row ≡ x → x ≡ get_or wants place x
    → IsSingleGate b rows row (get_or readies place no_wire) s → IsSingleGate b rows (get_or wants place []) (get_or readies place no_wire) s
single_here b rows wants readies place row x s l e f h = subst (λ (ws : List Wire). IsSingleGate b rows ws (get_or readies place no_wire) s) (read_here wants place row x [] l e f) h

pub serving_adds : (old new : Built) (count : ℕ) (widths : List ℕ) (s : Serving) → Adds old new → AreServing old count widths s → AreServing new count widths s
serving_adds old new count widths s g h = record {
  grants = bits_adds old new s.grants g h.grants;
  long = h.long;
  valid = bit_adds old new s.valid g h.valid;
  row = record { long = h.row.long; wires = widths_later old new widths s.items g.later h.row.wires };
}

pub serving_many : (b : Built) (n m : ℕ) (widths : List ℕ) (s : Serving) → n ≡ m → AreServing b n widths s → AreServing b m widths s
serving_many b n m widths s e h = subst (λ (k : ℕ). AreServing b k widths s) e h

-- ---- takes

no_serving : Serving
no_serving = record { grants = []; valid = no_wire; items = [] }

abbrev pub grant_to : ℕ → Serving → Wire
grant_to head s = get_or s.grants head no_wire

pub grants_bits : (b : Built) (count head : ℕ) (ss : List Serving) (ws gs : List Wire) → ws ≡ gs → gs ≡ map (grant_to head) ss → GrantEach b count ss → head < count → AreBits b ws
grants_bits b count head ss ws gs e f h l = subst (AreBits b) (sym (e ∙ f)) (record {
  each = λ k d m.
      let n : k < length ss = omega (arith, m, length-map ss (grant_to head)) in
      let g = h.at k no_serving n in
      subst (IsBit b) (sym (get_or-map (grant_to head) ss k no_serving d n)) (g.bits.each head no_wire (omega (arith, g.long, l)));
})

any_map : {A C : Type 0} (p : C → Bool) (f : A → C) (xs : List A) → list_any p (map f xs) ≡ list_any (λ x. p (f x)) xs
any_map p f [] = refl
any_map p f (x ∷ xs) = ap (λ (c : Bool). p (f x) || c) (any_map p f xs)

pub taken_told : (b : Built) (head : ℕ) (ss : List Serving) (ws gs : List Wire) (w : Wire) → ws ≡ gs → gs ≡ map (grant_to head) ss → IsBit b w → Tells b w (λ v. list_any (high v) ws) → TellsTaken b ss head w
taken_told b head ss ws gs w e f i t = record {
  bit = i;
  tells = record { at = λ v s. t.at v s ∙ ap (list_any (high v)) (e ∙ f) ∙ any_map (high v) (grant_to head) ss };
}

pub taken_adds : (old new : Built) (ss : List Serving) (head : ℕ) (w : Wire) → Adds old new → TellsTaken old ss head w → TellsTaken new ss head w
taken_adds old new ss head w g h = record { bit = bit_adds old new w g h.bit; tells = tells_adds old new w _ g h.tells }

pub grants_adds : (old new : Built) (count : ℕ) (ss : List Serving) → Adds old new → GrantEach old count ss → GrantEach new count ss
grants_adds old new count ss g h = all_lifted _ _ ss (λ k s i. wanted_adds old new count s.grants g i) h

pub grants_long : (b : Built) (count head : ℕ) (ss : List Serving) → head < count → GrantEach b count ss → AllAt (λ k (s : Serving). head < length s.grants) ss
grants_long b count head ss l h = all_lifted _ _ ss (λ k s i. omega (arith, l, i.long)) h

-- the gates are told how many beats follow each head
pub gates_told : (old mid new : Built) (round : Bool) (channel : Channel) (bytes : ℕ) (wants : List (List Wire)) (readies : List Wire) (rows : List (List Wire)) (rests rs : List Wire) (ss : List Serving) → rs ≡ rests → AreWanted old (length rows) wants
    → AreRests mid (beats_behind_head channel bytes) rows rests → length ss ≡ length wants
    → AllAt (λ k s. IsServedBy mid new round rows rs (get_or wants k []) (get_or readies k no_wire) s) ss → AreGates new round channel bytes wants readies rows ss
gates_told old mid new round channel bytes wants readies rows rests rs ss e wanted told n h = record {
  long = n;
  gates = record {
    at = λ k d l.
        let w = wanted.at k [] (omega (arith, l, n)) in
        (h.at k d l).gate (beats_behind_head channel bytes) 255 (record {
          at = λ v j x y s m z f.
              let i : j < length rests = omega (arith, m, w.long, told.long) in
              ap (λ (xs : List Wire). v (get_or xs j y).number) e ∙ (told.tells.at j y i).at v s;
        });
  };
}
