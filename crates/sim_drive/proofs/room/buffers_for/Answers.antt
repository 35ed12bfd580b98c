use Rattle.std.proofs.Common.{rules}
use Rattle.sim_drive.proofs.Wiring.{room_fits}
use Rattle.sim_drive.proofs.room.buffers_for.Goals as goal

pub returns : goal.returns
returns c = room_fits c.args.plan.now c.args.netlist.now _ c.requires c.in_ok-widths.ensures
    (search rules) (search rules) (search rules) (search rules)
