use Rattle.std.proofs.Common.{◌∙◌}
use Rattle.sim_engine.specs.declared.steps.Kind.TheVariants.{Const}
use Rattle.sim_engine.specs.Columns.{step_in}
use Rattle.sim_engine.proofs.Rows.{run_rows}
use Rattle.sim_engine.proofs.Columned.{next_run}
use Rattle.sim_engine.proofs.runs.evaluate_all.Goals as goal
use Rattle.std.proofs.Common.{length}

pub loop-run-preserved : goal.loop-run-preserved
loop-run-preserved c =
    let h = next_run c.args.columns.now.kind.items c.loop-run.from c.args.runs.now c.loop-run.run-index (record { kind = Const; until = 0 }) c.loop-run-test.true c.loop-run.invariant.parted in
    record {
      parted = h.rest;
      rest = run_rows (step_in c.args.columns.now) c.args.first c.loop-run.from _ (length c.args.columns.now.kind.items) c.loop-run.values c.evaluate_run.new.values h.after h.within c.evaluate_run.ensures
          ∙ c.loop-run.invariant.rest;
    }
