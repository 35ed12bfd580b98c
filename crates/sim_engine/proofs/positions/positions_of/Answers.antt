use Rattle.std.proofs.Common.{arith}
use Rattle.sim_engine.proofs.Placed.{positions_found}
use Rattle.sim_engine.proofs.positions.positions_of.Goals as goal

pub returns : goal.returns
returns c =
    positions_found c.args.netlist.now c.args.order.now c.loop-at.positions.items c.requires.order c.loop-at.invariant.long (λ row d b. c.loop-at.invariant.right row d (omega arith))
