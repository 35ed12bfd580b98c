use Rattle.std.proofs.Common.{◌∙◌, sym, ap}
use Rattle.tl_rules.proofs.Walks.{output_fails, output_passes}
use Rattle.tl_rules.proofs.fit_xbar.shows_outputs.Goals as goal

pub returns-then-not-begin_with : goal.returns-then-not-begin_with
returns-then-not-begin_with c =
    let real = c.as_slice-real.ensures ∙ ap (λ port. port.slaves) c.port_up.ensures in
    sym (output_fails c.args.up.now c.args.outs.now c.loop-output.output-index c.loop-output.rest.now c.as_slice-real.result.now c.loop-output-test.true real
    (sym c.if-not-begin_with.ensures.value))
    ∙ c.loop-output.invariant

pub loop-output-preserved : goal.loop-output-preserved
loop-output-preserved c =
    let real = c.as_slice-real.ensures ∙ ap (λ port. port.slaves) c.port_up.ensures in
    rw c.behind-rest.ensures
    (sym (output_passes c.args.up.now c.args.outs.now c.loop-output.output-index c.loop-output.rest.now c.as_slice-real.result.now c.loop-output-test.true real
    (sym c.if-not-begin_with.ensures.value))
    ∙ c.loop-output.invariant)
