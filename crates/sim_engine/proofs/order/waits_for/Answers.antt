use Rattle.std.proofs.Common.{ap, ◌∙◌}
use Rattle.sim_engine.specs.Steps.{three}
use Rattle.sim_engine.proofs.Walking.{waits}
use Rattle.sim_engine.proofs.order.waits_for.Goals as goal

pub returns-in-Some : goal.returns-in-Some
returns-in-Some c =
    waits c.args.netlist.now c.requires.well c.args.walk.now c.args.top c.in-Some.net c.first_cell-first.result c.three-nets.result c.deref.result.now c.first_cell-first.ensures
    (c.three-nets.ensures ∙ ap three c.op_at.ensures) c.deref.ensures.value c.requires.exists c.in-Some.ensures.0 c.in-Some.ensures.1
