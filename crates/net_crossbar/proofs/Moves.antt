-- Rows with an id moved to a range and back.
use Rattle.std.proofs.Common.{◌≡◌, ℕ, ◌<◌, List, [], length, get_or, refl, sym, ap, ◌∙◌, subst, arith, inl, inr}
use Rattle.std.specs.Prelude.{slice_set}
use Rattle.std.proofs.lemmas.Bool.{cases_eq}
use Rattle.std.proofs.lemmas.List.{get_or-set_same, get_or-set_other, get_or_default, length-set, map-set}
use Rattle.dip_sets.specs.declared.ids.IdRange.{IdRange}
use Rattle.net_build.specs.declared.types.Wire.{Wire}
use Rattle.net_build.specs.Bits.{wire_values}
use Rattle.net_build.specs.Built.{Built, IsWire}
use Rattle.net_build.specs.Columns.{no_wire}
use Rattle.net_build.specs.Registers.{AreWires}
use Rattle.net_build.specs.Values.{Adds}
use Rattle.net_build.proofs.OpenedLists.{widths_later}
use Rattle.net_build.proofs.Steps.{wire_adds}
use Rattle.net_paths.specs.declared.ids.IdBlock.{IdBlock}
use Rattle.net_paths.specs.Paths.{IsIdBlock, MovesBack, MovesId}
use Rattle.net_queue.specs.Rows.{row_widths}
use Rattle.net_queue.proofs.Alike.{width_at}
use Rattle.net_crossbar.specs.Heads.{IsOfLength, MovesRow, MovesRowBack}
use Rattle.net_crossbar.specs.Places.{AllAt}
use Rattle.net_crossbar.proofs.Lists.{read_here}

-- wires that are each of the builder
pub wires_all : (b : Built) (ws : List Wire) → ((k : ℕ) (d : Wire) → k < length ws → IsWire b (get_or ws k d)) → AreWires b (row_widths ws) ws
wires_all b ws h = record { each = λ k d l. (h k d l, width_at ws k d l) }

pub row_adds : (old new : Built) (count : ℕ) (row : List Wire) → Adds old new → IsOfLength old count row → IsOfLength new count row
row_adds old new count row g h = record { long = h.long; wires = widths_later old new (row_widths row) row g.later h.wires }

pub row_here : (old new : Built) (count : ℕ) (rows : List (List Wire)) (place : ℕ) (row : List Wire) → place < length rows → row ≡ get_or rows place row → Adds old new → AllAt (λ k ws. IsOfLength old count ws) rows → IsOfLength new count row
row_here old new count rows place row l e g h = subst (IsOfLength new count) (sym (read_here rows place row row [] l refl e)) (row_adds old new count (get_or rows place []) g (h.at place [] l))

pub set_wires : (old new : Built) (count place : ℕ) (row out : List Wire) (id : Wire) → out ≡ slice_set row place id → Adds old new → IsOfLength old count row → IsWire new id → place < count → IsOfLength new count out
set_wires old new count place row out id e g h i l = subst (IsOfLength new count) (sym e) (record {
  long = length-set row place id ∙ h.long;
  wires = wires_all new (slice_set row place id) (λ k d m.
      let n : k < length row = omega (arith, m, length-set row place id) in
      elim (cases_eq k place) [
        | inl q ↦ subst (IsWire new) (sym (ap (λ j. get_or (slice_set row place id) j d) q ∙ get_or-set_same row place id d (omega (arith, l, h.long)))) i
        | inr q ↦ subst (IsWire new) (sym (get_or-set_other row place k id d q)) (wire_adds old new (get_or row k d) g (h.wires.each k d n).0)
      ]);
})

pub set_moves : (b : Built) (place : ℕ) (block : IdBlock) (row rs out : List Wire) (id : Wire) → rs ≡ row → out ≡ slice_set row place id
    → ((range : IdRange) → IsIdBlock range block → MovesId b range block (get_or rs place no_wire) id) → MovesRow b place block row out
set_moves b place block row rs out id f e h = record {
  at = λ range v i s l.
      let m = subst (λ (ws : List Wire). MovesId b range block (get_or ws place no_wire) id) f (h range i) in
      ap (wire_values v) e ∙ map-set (λ (w : Wire). v w.number) row place id ∙ ap (λ (n : ℕ). slice_set (wire_values v row) place n) (m.at v s l);
}

pub set_returns : (b : Built) (place : ℕ) (block : IdBlock) (row rs out : List Wire) (id : Wire) → rs ≡ row → out ≡ slice_set row place id
    → ((range : IdRange) → IsIdBlock range block → MovesBack b range (get_or rs place no_wire) id) → MovesRowBack b place block row out
set_returns b place block row rs out id f e h = record {
  at = λ range v i s l.
      let m = subst (λ (ws : List Wire). MovesBack b range (get_or ws place no_wire) id) f (h range i) in
      ap (wire_values v) e ∙ map-set (λ (w : Wire). v w.number) row place id ∙ ap (λ (n : ℕ). slice_set (wire_values v row) place n) (m.at v s l);
}

pub moves_adds : (old new : Built) (place : ℕ) (block : IdBlock) (row out : List Wire) → Adds old new → MovesRow old place block row out → MovesRow new place block row out
moves_adds old new place block row out g h = record { at = λ range v i s l. h.at range v i (g.later.back v s) l }

-- the block and the row at a place
pub moves_here : (b : Built) (place : ℕ) (rows : List (List Wire)) (blocks : List IdBlock) (k : ℕ) (block d : IdBlock) (row out : List Wire) → k < length rows → k < length blocks → row ≡ get_or rows k row → block ≡ get_or blocks k d
    → MovesRow b place block row out → MovesRow b place (get_or blocks k (record { prefix = 0; bits = 0 })) (get_or rows k []) out
moves_here b place rows blocks k block d row out l m e f h =
    subst (λ (x : IdBlock). MovesRow b place x (get_or rows k []) out) (f ∙ get_or_default blocks k d _ m)
    (subst (λ (ws : List Wire). MovesRow b place block ws out) (read_here rows k row row [] l refl e) h)

-- what stands before the id stays
pub set_first : (place : ℕ) (row out : List Wire) (id : Wire) → out ≡ slice_set row place id → 0 < place → get_or out 0 no_wire ≡ get_or row 0 no_wire
set_first place row out id e l = ap (λ (ws : List Wire). get_or ws 0 no_wire) e ∙ get_or-set_other row place 0 id no_wire (λ q. omega (arith, l, q))
