use Rattle.std.proofs.Common.{◌≡◌, ◌-◌, length, drop}
use Rattle.sim_engine.specs.Columns.{AreRuns, step_in}
use Rattle.sim_engine.specs.Steps.{evaluated}
use Rattle.sim_engine.proofs.runs.evaluate_all.Given as goal

abbrev pub invariant-loop-run : goal.invariant-loop-run
invariant-loop-run l = record {
  parted : AreRuns l.columns.kind.items l.from (drop l.run-index l.runs);
  rest : evaluated (step_in l.columns) l.first l.from (length l.columns.kind.items - l.from) l.values
      ≡ evaluated (step_in l.columns) l.first 0 (length l.columns.kind.items) l.fn.values;
}
