use Rattle.std.proofs.Common.{◌≡◌, ◌++◌, length, drop, take}
use Rattle.sim_run.specs.Turning.{fitted}
use Rattle.sim_run.proofs.turning.fit.Given as goal

abbrev pub invariant-loop-place : goal.invariant-loop-place
invariant-loop-place l = record {
  long : length l.values ≡ length l.fn.values;
  values : take l.place l.values ++ fitted (drop l.place l.widths) (drop l.place l.values) ≡ fitted l.widths l.fn.values;
}
