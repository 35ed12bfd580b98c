use Rattle.std.proofs.Common.{◌≡◌, ◌≤◌, ◌+◌, ◌-◌, ◌*◌}
use Rattle.sim_drive.specs.Totals.{byte_sum}
use Rattle.sim_drive.proofs.totals.byte_sum.Given as goal

abbrev pub invariant-loop-place : goal.invariant-loop-place
invariant-loop-place l = record {
  sum : l.sum + byte_sum (8 - l._place) l.rest ≡ byte_sum 8 l.number;
  few : l.sum ≤ 255 * l._place;
}
