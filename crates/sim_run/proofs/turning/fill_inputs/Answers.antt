use Rattle.std.proofs.Common.{◌∙◌, length, sym, ap}
use Rattle.sim_run.specs.Turning.{fitted}
use Rattle.sim_run.proofs.Fitting.{all_written_back, fitted_long}
use Rattle.sim_run.proofs.turning.fill_inputs.Goals as goal

pub fit-requires : goal.fit-requires
fit-requires c = c.requires.many ∙ sym c.write_inputs.ensures.long ∙ sym (ap length c.as_mut_slice.ensures.value)

pub returns-clause-inputs : goal.returns-clause-inputs
returns-clause-inputs c =
    all_written_back c.fit.new.values c.args.widths.now c.write_inputs.new.inputs.items c.write_inputs.new.inputs.len
    (c.fit.ensures ∙ ap (fitted c.args.widths.now) c.as_mut_slice.ensures.value) (c.requires.many ∙ sym c.write_inputs.ensures.long)
    (sym c.as_mut_slice.ensures.len ∙ ap length c.as_mut_slice.ensures.value)
    ∙ ap (fitted c.args.widths.now) c.write_inputs.ensures.values

pub returns-clause-long : goal.returns-clause-long
returns-clause-long c =
    ap length (all_written_back c.fit.new.values c.args.widths.now c.write_inputs.new.inputs.items c.write_inputs.new.inputs.len
    (c.fit.ensures ∙ ap (fitted c.args.widths.now) c.as_mut_slice.ensures.value) (c.requires.many ∙ sym c.write_inputs.ensures.long)
    (sym c.as_mut_slice.ensures.len ∙ ap length c.as_mut_slice.ensures.value))
    ∙ fitted_long c.args.widths.now c.write_inputs.new.inputs.items (c.requires.many ∙ sym c.write_inputs.ensures.long)

pub returns-clause-many : goal.returns-clause-many
returns-clause-many c = c.requires.many ∙ sym c.write_inputs.ensures.long ∙ ap length c.write_inputs.ensures.values
