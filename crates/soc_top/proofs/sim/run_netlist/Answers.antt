use Rattle.std.proofs.Common.{◌∙◌, length, vec_len}
use Rattle.ver_text.specs.Spelling.{layout}
use Rattle.soc_top.proofs.SimParts.{enough_given, run_opened}
use Rattle.soc_top.proofs.sim.run_netlist.Goals as goal

pub returns-in-Ok-open-clause-runs : goal.returns-in-Ok-open-clause-runs
returns-in-Ok-open-clause-runs g c =
    run_opened _ c.args.netlist c.args.stimulus.cycles (length c.args.plan.now.sinks) (vec_len c.args.devices) (layout c.args.netlist) c.args.name.now _ _ _
    c.in-Ok-open.run'.cycles c.as_slice.result.now
    (enough_given (vec_len c.args.devices) (length c.args.plan.now.sinks) c.open.result c.in-Ok-open.run' c.open.ensures.too_few c.in-Ok-open.is)
    c.in-Ok-open.ensures.cycles (c.as_slice.ensures ∙ c.in-Ok.ensures.layout) (c.save_and_run.ensures.ran _ c.args.netlist c.in-Ok-open.ensures.is)
