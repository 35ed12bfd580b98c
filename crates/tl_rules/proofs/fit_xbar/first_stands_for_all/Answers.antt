use Rattle.std.proofs.Common.{◌∙◌, sym, ap, map}
use Rattle.tl_rules.specs.Crossbars.{input_ranges, joined_masters}
use Rattle.tl_rules.specs.Fits.{port_down}
use Rattle.tl_rules.proofs.Walks.{all_outputs}
use Rattle.tl_rules.proofs.fit_xbar.first_stands_for_all.Goals as goal

pub returns-then-has_inputs : goal.returns-then-has_inputs
returns-then-has_inputs c =
    let ins = map (port_down c.args.down.now) c.args.ins.now in
    let masters = c.as_slice-masters.ensures ∙ ap (λ port. port.masters) c.port_down.ensures in
    let all = all_outputs c.args.down.now c.args.outs.now c.args.first (joined_masters ins (input_ranges ins)) c.as_slice-masters.result.now c.requires.first masters in
    c.all_have_ids.ensures ∙ sym (rw (← c.if-has_inputs.ensures) at all)

pub returns-else-has_inputs : goal.returns-else-has_inputs
returns-else-has_inputs c =
    let ins = map (port_down c.args.down.now) c.args.ins.now in
    let masters = c.as_slice-masters.ensures ∙ ap (λ port. port.masters) c.port_down.ensures in
    let all = all_outputs c.args.down.now c.args.outs.now c.args.first (joined_masters ins (input_ranges ins)) c.as_slice-masters.result.now c.requires.first masters in
    c.if-has_inputs.false ∙ sym (rw (← c.if-has_inputs.ensures) at all)
