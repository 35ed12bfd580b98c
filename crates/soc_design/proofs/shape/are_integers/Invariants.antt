use Rattle.std.proofs.Common.{◌≡◌, drop}
use Rattle.toml.specs.View.{items_view}
use Rattle.soc_design.specs.Shape as spec
use Rattle.soc_design.proofs.shape.are_integers.Given as goal

abbrev pub invariant-loop-item : goal.invariant-loop-item
invariant-loop-item l = spec.are_integers (items_view (drop l.item-index l.items)) ≡ spec.are_integers (items_view l.items)
