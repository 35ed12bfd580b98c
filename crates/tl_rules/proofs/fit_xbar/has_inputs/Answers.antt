use Rattle.std.proofs.Common.{◌∙◌, sym, ap}
use Rattle.dip_sets.specs.Assignments.{rounded, sum_before}
use Rattle.tl_rules.specs.Crossbars.{id_count}
use Rattle.tl_rules.proofs.Walks.{rounded_of, input_fails, input_passes}
use Rattle.tl_rules.proofs.fit_xbar.has_inputs.Goals as goal

pub returns-then-not-begin_shifted : goal.returns-then-not-begin_shifted
returns-then-not-begin_shifted c =
    let own = c.as_slice-own.ensures ∙ ap (λ port. port.masters) c.port_down-port.ensures in
    let count = c.rounded_count.ensures.value ∙ ap (λ port. rounded (id_count port)) c.port_down-port.ensures in
    let all = rounded_of c.args.down.now c.args.ins.now in
    let start = c.range_start-start.ensures ∙ ap (λ n. sum_before n c.loop-place.place 0 all) count in
    sym (input_fails c.args.down.now all c.args.ins.now c.loop-place.place c.range_start-start.result c.as_slice-own.result.now c.loop-place.rest.now
    c.loop-place-test.true own start (sym c.if-not-begin_shifted.ensures.value))
    ∙ c.loop-place.invariant

pub loop-place-preserved : goal.loop-place-preserved
loop-place-preserved c =
    let own = c.as_slice-own.ensures ∙ ap (λ port. port.masters) c.port_down-port.ensures in
    let count = c.rounded_count.ensures.value ∙ ap (λ port. rounded (id_count port)) c.port_down-port.ensures in
    let all = rounded_of c.args.down.now c.args.ins.now in
    let start = c.range_start-start.ensures ∙ ap (λ n. sum_before n c.loop-place.place 0 all) count in
    rw c.behind-rest.ensures
    (sym (input_passes c.args.down.now all c.args.ins.now c.loop-place.place c.range_start-start.result c.as_slice-own.result.now c.loop-place.rest.now
    c.loop-place-test.true own start (sym c.if-not-begin_shifted.ensures.value))
    ∙ c.loop-place.invariant)
