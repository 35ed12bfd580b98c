use Rattle.std.proofs.Common.{◌≡◌, ◌-◌}
use Rattle.sim_engine.specs.Columns.{step_in}
use Rattle.sim_engine.specs.Steps.{evaluated}
use Rattle.sim_engine.proofs.runs.evaluate_as.Given as goal

abbrev pub invariant-loop-row : goal.invariant-loop-row
invariant-loop-row l =
    evaluated (step_in l.columns) l.first l.row (l.until - l.row) l.values ≡ evaluated (step_in l.columns) l.first l.from (l.until - l.from) l.fn.values
