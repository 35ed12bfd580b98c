use Rattle.std.proofs.Common.{◌≡◌, drop}
use Rattle.toml.specs.View.{items_view}
use Rattle.toml_shape.specs.Shapes as spec
use Rattle.toml_shape.proofs.table.are_tables.Given as goal

abbrev pub invariant-loop-item : goal.invariant-loop-item
invariant-loop-item l = spec.are_tables (items_view (drop l.item-index l.items)) ≡ spec.are_tables (items_view l.items)
