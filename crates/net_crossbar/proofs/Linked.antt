-- The wires of one channel from call to call.
use Rattle.std.proofs.Common.{◌≡◌, ℕ, ◌<◌, Bool, List, length, get_or, sym, ap, ◌∙◌, subst, arith}
use Rattle.tl_edge.specs.declared.plan.Plan.{Plan}
use Rattle.tl_edge.specs.Plans.{edge_at}
use Rattle.net_build.specs.declared.types.Wire.{Wire}
use Rattle.net_build.specs.Bits.{AreRows}
use Rattle.net_build.specs.Built.{Built}
use Rattle.net_build.specs.Columns.{no_wire}
use Rattle.net_build.specs.Values.{Adds}
use Rattle.net_build.proofs.RowLists.{rows_adds}
use Rattle.net_gate.specs.declared.types.Serving.{Serving}
use Rattle.net_gate.specs.Built.{AreServing}
use Rattle.net_paths.specs.declared.ids.IdBlock.{IdBlock}
use Rattle.net_queue.proofs.Relations.{machine_later}
use Rattle.net_crossbar.specs.declared.channel.Channel.{Channel}
use Rattle.net_crossbar.specs.Crossed.{AreFitted, AreGates, AreRequestRows}
use Rattle.net_crossbar.specs.Heads.{IsOfLength}
use Rattle.net_crossbar.specs.Places.{AllAt}
use Rattle.net_crossbar.specs.Puts.{AskOwner, AskRange, IsServedRow}
use Rattle.net_crossbar.specs.Rests.{HaveOpcodes}
use Rattle.net_crossbar.specs.Serving.{AreWanted, GrantEach}
use Rattle.net_crossbar.specs.Wants.{HaveField}
use Rattle.net_crossbar.proofs.Asked.{all_told_adds}
use Rattle.net_crossbar.proofs.Lists.{all_lifted}
use Rattle.net_crossbar.proofs.Moves.{moves_adds, row_adds, wires_all}
use Rattle.net_crossbar.proofs.Putting.{fields_adds}

pub all_rows_adds : (old new : Built) (count : ℕ) (rows : List (List Wire)) → Adds old new → AllAt (λ k row. IsOfLength old count row) rows → AllAt (λ k row. IsOfLength new count row) rows
all_rows_adds old new count rows g h = all_lifted _ _ rows (λ k row i. row_adds old new count row g i) h

pub have_field : (old new : Built) (count n : ℕ) (rows : List (List Wire)) → n < count → Adds old new → AllAt (λ k row. IsOfLength old count row) rows → HaveField new n rows
have_field old new count n rows l g h = fields_adds old new n rows g (all_lifted _ _ rows (λ k row i. record { long = omega (arith, i.long, l); wire = (i.wires.each n no_wire (omega (arith, i.long, l))).0 }) h)

pub fitted_later : (old new : Built) (count : ℕ) (from rows : List (List Wire)) (widths : List ℕ) → Adds old new → AreFitted old count from rows widths → AreFitted new count from rows widths
fitted_later old new count from rows widths g h = record {
  long = h.long;
  widths_long = h.widths_long;
  rows_are = rows_adds old new widths rows g h.rows_are;
  told = all_told_adds old new rows g h.told;
  same = all_lifted _ _ rows (λ k row m. record { at = λ v s. m.at v (g.later.back v s) }) h.same;
}

pub request_rows_later : (old new : Built) (blocks : List IdBlock) (heads rows : List (List Wire)) (widths : List ℕ) → Adds old new → AreRequestRows old blocks heads rows widths → AreRequestRows new blocks heads rows widths
request_rows_later old new blocks heads rows widths g h = record {
  moved = h.moved;
  moved_long = h.moved_long;
  moves = all_lifted _ _ h.moved (λ k row m. moves_adds old new 3 _ _ row g m) h.moves;
  fitted = fitted_later old new 7 h.moved rows widths g h.fitted;
}

pub gates_later : (old new : Built) (round : Bool) (channel : Channel) (bytes : ℕ) (wants : List (List Wire)) (readies : List Wire) (rows : List (List Wire)) (ss : List Serving) → Adds old new → AreGates old round channel bytes wants readies rows ss → AreGates new round channel bytes wants readies rows ss
gates_later old new round channel bytes wants readies rows ss g h = record {
  long = h.long;
  gates = all_lifted _ _ ss (λ k s m. machine_later _ _ _ _ _ _ old new g.later m) h.gates;
}

-- lists in place of the slices that are passed
pub gates_of : (b : Built) (round : Bool) (channel : Channel) (bytes : ℕ) (ws wants : List (List Wire)) (readies : List Wire) (rs rows : List (List Wire)) (ss : List Serving) → ws ≡ wants → rs ≡ rows → AreGates b round channel bytes ws readies rs ss → AreGates b round channel bytes wants readies rows ss
gates_of b round channel bytes ws wants readies rs rows ss e f h = subst (λ (x : List (List Wire)). AreGates b round channel bytes x readies rows ss) e (subst (λ (x : List (List Wire)). AreGates b round channel bytes ws readies x ss) f h)

pub served_rows : (b : Built) (n count : ℕ) (ns widths : List ℕ) (ss : List Serving) → ns ≡ widths → length widths ≡ count → AllAt (λ k s. AreServing b n ns s) ss → AllAt (λ k (s : Serving). IsServedRow b count s) ss
served_rows b n count ns widths ss e l h = all_lifted _ _ ss (λ k s i. record {
  valid = i.valid;
  row = record { long = i.row.long ∙ ap length e ∙ l; wires = wires_all b s.items (λ j d m. (i.row.wires.each j d m).0) };
}) h

pub grants_of_all : (b : Built) (n count : ℕ) (widths : List ℕ) (ss : List Serving) → n ≡ count → AllAt (λ k s. AreServing b n widths s) ss → GrantEach b count ss
grants_of_all b n count widths ss e h = all_lifted _ _ ss (λ k s i. record { bits = i.grants; long = i.long ∙ e }) h

pub owner_wanted : (b : Built) (valids : List Wire) (rows : List (List Wire)) (plan : Plan) (numbers : List ℕ) (count : ℕ) (ws wants : List (List Wire)) → ws ≡ wants → length rows ≡ count
    → AllAt (λ k row. AskOwner b valids rows (edge_at plan (get_or numbers k 0)).slaves row) wants → AreWanted b count ws
owner_wanted b valids rows plan numbers count ws wants e n h = subst (AreWanted b count) (sym e) (all_lifted _ _ wants (λ k row i. record {
  bits = record { each = λ j d l. (i.asks.at j d l).bit };
  long = i.long ∙ n;
}) h)

pub range_wanted : (b : Built) (valids : List Wire) (rows : List (List Wire)) (blocks : List IdBlock) (count : ℕ) (ws wants : List (List Wire)) → ws ≡ wants → length rows ≡ count
    → AllAt (λ k row. AskRange b valids rows (get_or blocks k (record { prefix = 0; bits = 0 })) row) wants → AreWanted b count ws
range_wanted b valids rows blocks count ws wants e n h = subst (AreWanted b count) (sym e) (all_lifted _ _ wants (λ k row i. record {
  bits = record { each = λ j d l. (i.asks.at j d l).bit };
  long = i.long ∙ n;
}) h)

pub rows_of : (old new : Built) (count : ℕ) (from rows rs : List (List Wire)) (widths ns : List ℕ) → rs ≡ rows → ns ≡ widths → Adds old new → AreFitted old count from rows widths → AreRows new ns rs
rows_of old new count from rows rs widths ns e f g h =
    subst (λ (x : List ℕ). AreRows new x rs) (sym f) (subst (AreRows new widths) (sym e) (rows_adds old new widths rows g h.rows_are))

pub told_of : (old new : Built) (count : ℕ) (from rows rs : List (List Wire)) (widths : List ℕ) → rs ≡ rows → Adds old new → AreFitted old count from rows widths → HaveOpcodes new rs
told_of old new count from rows rs widths e g h = subst (HaveOpcodes new) (sym e) (all_told_adds old new rows g h.told)

pub fields_five : (b : Built) (n : ℕ) (ns widths : List ℕ) (ss : List Serving) → ns ≡ widths → length widths ≡ 5 → AllAt (λ k s. AreServing b n ns s) ss → AllAt (λ k (s : Serving). length s.items ≡ 5) ss
fields_five b n ns widths ss e l h = all_lifted _ _ ss (λ k s i. i.row.long ∙ ap length e ∙ l) h
