use Rattle.std.proofs.Common.{◌≡◌, ◌++◌, drop}
use Rattle.dip_sets.specs.Assignments.{ranges_from}
use Rattle.dip_sets.proofs.assign.ranges_of.Given as goal

abbrev pub invariant-loop-place : goal.invariant-loop-place
invariant-loop-place l = l.ranges ++ ranges_from l.place l.rounded (drop l.place l.rounded) ≡ ranges_from 0 l.rounded l.rounded
