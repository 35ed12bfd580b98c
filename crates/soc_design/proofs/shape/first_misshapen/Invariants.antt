use Rattle.std.proofs.Common.{◌≡◌, ◌+◌, drop, not}
use Rattle.toml.specs.View.{items_view}
use Rattle.dip_lists.specs.First.{first}
use Rattle.soc_design.specs.Shape.{part_has_shape}
use Rattle.soc_design.proofs.shape.first_misshapen.Given as goal
use Rattle.toml_shape.specs.Entries.{failing}

abbrev pub invariant-loop-place : goal.invariant-loop-place
invariant-loop-place l =
    first (failing (λ place d. not (part_has_shape l.part d)) l.place (l.entry + l.place) (items_view (drop l.place l.tables)))
    ≡ first (failing (λ place d. not (part_has_shape l.part d)) 0 l.entry (items_view l.tables))
