use Rattle.std.proofs.Common.{◌++◌, ◌≤◌, ◌-◌, List, length}
use Rattle.sim_engine.specs.declared.runs.Run.{Run}
use Rattle.sim_engine.specs.Columns.{AreRuns}
use Rattle.sim_engine.proofs.runs.runs_of.Given as goal

abbrev pub invariant-loop-from : goal.invariant-loop-from
invariant-loop-from l = record {
  within : l.from ≤ length l.kinds;
  parted : (more : List Run) → AreRuns l.kinds l.from more → AreRuns l.kinds 0 (l.runs.items ++ more);
}

abbrev pub decreases-loop-from : goal.decreases-loop-from
decreases-loop-from l = length l.kinds - l.from
