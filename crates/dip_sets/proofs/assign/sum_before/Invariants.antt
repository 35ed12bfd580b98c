use Rattle.std.proofs.Common.{◌≡◌, ◌≤◌, ◌+◌, ◌*◌, drop}
use Rattle.dip_sets.specs.Assignments.{sum_before}
use Rattle.dip_sets.proofs.assign.sum_before.Given as goal

abbrev pub invariant-loop-at : goal.invariant-loop-at
invariant-loop-at l = record {
  so_far : l.total + sum_before l.own l.place l.at (drop l.at l.rounded) ≡ sum_before l.own l.place 0 l.rounded;
  bound : l.total ≤ 1024 * l.at;
}
