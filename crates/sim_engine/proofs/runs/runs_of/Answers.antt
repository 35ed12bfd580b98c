use Rattle.std.proofs.Common.{[], arith, subst}
use Rattle.std.specs.Prelude.{List}
use Rattle.std.proofs.lemmas.List.{append-nil}
use Rattle.sim_engine.specs.declared.runs.Run.{Run}
use Rattle.sim_engine.specs.Columns.{AreRuns}
use Rattle.sim_engine.proofs.runs.runs_of.Goals as goal

pub returns : goal.returns
returns c = subst (λ (runs : List Run). AreRuns c.args.kinds.now 0 runs) (append-nil c.loop-from.runs.items) (c.loop-from.invariant.parted [] (omega (arith, c.loop-from.invariant.within)))
