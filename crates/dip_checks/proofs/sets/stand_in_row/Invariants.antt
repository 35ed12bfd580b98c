use Rattle.std.specs.List.{AllAdjacentBelow}
use Rattle.dip_checks.specs.Rows.{EndsBefore}
use Rattle.dip_checks.proofs.sets.stand_in_row.Given as goal

abbrev pub invariant-loop-place : goal.invariant-loop-place
invariant-loop-place l = AllAdjacentBelow EndsBefore l.sets l.place
