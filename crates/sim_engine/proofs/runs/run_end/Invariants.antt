use Rattle.sim_engine.specs.Columns.{HaveKind}
use Rattle.sim_engine.proofs.runs.run_end.Given as goal

abbrev pub invariant-loop-at : goal.invariant-loop-at
invariant-loop-at l = HaveKind l.kinds l.from l.at l.kind
