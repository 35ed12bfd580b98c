use Rattle.std.proofs.Common.{◌∙◌, refl, arith}
use Rattle.sim_engine.proofs.Columned.{run_row, row_read}
use Rattle.sim_engine.proofs.runs.evaluate_as.Goals as goal

pub loop-row-preserved : goal.loop-row-preserved
loop-row-preserved c =
    run_row c.args.columns.now c.args.first c.loop-row.row c.args.until c.loop-row.values _ _ c.step_value.result c.loop-row-test.true
    (row_read c.args.columns.now c.loop-row.row c.as_slice-xs.result.now c.as_slice-ys.result.now c.as_slice-zs.result.now c.as_slice-shifts.result.now c.as_slice-shorts.result.now c.args.kind
    c.as_slice-xs.ensures.value c.as_slice-ys.ensures.value c.as_slice-zs.ensures.value c.as_slice-shifts.ensures.value c.as_slice-shorts.ensures.value
    (c.requires.kinds c.loop-row.row (omega arith) c.loop-row-test.true))
    c.step_value.ensures refl
    ∙ c.loop-row.invariant
