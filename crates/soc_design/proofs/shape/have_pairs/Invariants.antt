use Rattle.std.proofs.Common.{◌≡◌}
use Rattle.toml.specs.View.{members_view, table_view}
use Rattle.soc_design.specs.Shape as spec
use Rattle.soc_design.proofs.shape.have_pairs.Given as goal

abbrev pub invariant-loop-value : goal.invariant-loop-value
invariant-loop-value l = spec.have_pairs (members_view l.value-iterator) ≡ spec.have_pairs (table_view l.table)
