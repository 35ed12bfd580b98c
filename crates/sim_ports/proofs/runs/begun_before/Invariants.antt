use Rattle.std.proofs.Common.{◌-◌, ◌≤◌, length}
use Rattle.sim_ports.specs.Layout.{AllBegin, NoneBegins}
use Rattle.sim_ports.proofs.runs.begun_before.Given as goal

abbrev pub invariant-loop-low : goal.invariant-loop-low
invariant-loop-low l = record {
  order : l.low ≤ l.high;
  bound : l.high ≤ length l.runs;
  before : AllBegin l.runs l.address l.low;
  behind : NoneBegins l.runs l.address l.high;
}

abbrev pub decreases-loop-low : goal.decreases-loop-low
decreases-loop-low l = l.high - l.low
