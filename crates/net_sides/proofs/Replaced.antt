-- A row with another wire at one place.
use Rattle.std.proofs.Common.{ℕ, ◌<◌, List, length, get_or, set, sym, ap, ◌∙◌, subst, arith, inl, inr}
use Rattle.std.specs.Prelude.{slice_set}
use Rattle.std.proofs.lemmas.List.{get_or-set_other, get_or-set_same, length-set}
use Rattle.std.proofs.lemmas.Bool.{cases_eq}
use Rattle.net_build.specs.declared.types.Wire.{Wire}
use Rattle.net_build.specs.Built.{Built, IsWire}
use Rattle.net_build.specs.Registers.{AreWires}
use Rattle.net_queue.specs.Rows.{row_widths}
use Rattle.net_queue.proofs.Alike.{width_at}

pub own_widths : (b : Built) (ws : List Wire) → ((k : ℕ) (d : Wire) → k < length ws → IsWire b (get_or ws k d)) → AreWires b (row_widths ws) ws
own_widths b ws h = record { each = λ k d l. (h k d l, width_at ws k d l) }

pub set_wires : (b : Built) (ws : List Wire) (place : ℕ) (w : Wire) → place < length ws → AreWires b (row_widths ws) ws → IsWire b w → AreWires b (row_widths (slice_set ws place w)) (slice_set ws place w)
set_wires b ws place w p h g = own_widths b (set ws place w) (λ k d l.
    elim (cases_eq k place) [
      | inl e ↦ subst (IsWire b) (sym (ap (λ n. get_or (set ws place w) n d) e ∙ get_or-set_same ws place w d p)) g
      | inr n ↦ subst (IsWire b) (sym (get_or-set_other ws place k w d n)) (h.each k d (omega (arith, l, length-set ws place w))).0
    ])
