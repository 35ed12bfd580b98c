use Rattle.sim_engine.proofs.Columned.{can_run_in, settled_by}
use Rattle.sim_engine.proofs.engine.settled.Goals as goal

pub evaluate-requires-clause-can : goal.evaluate-requires-clause-can
evaluate-requires-clause-can c =
    can_run_in c.in_ok-columns.columns c.args.steps.now c.args.first c.args.nets c.in_ok-values.values.items c.in_ok-columns.ensures c.requires c.in_ok-values.ensures

pub returns : goal.returns
returns c =
    settled_by c.in_ok-columns.columns c.args.steps.now c.args.first c.args.nets c.in_ok-values.values.items c.evaluate.new.values.items c.in_ok-columns.ensures c.in_ok-values.ensures c.evaluate.ensures
