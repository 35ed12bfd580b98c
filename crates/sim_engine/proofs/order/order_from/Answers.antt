use Rattle.std.proofs.Common.{arith}
use Rattle.sim_engine.proofs.Walking.{order_found}
use Rattle.sim_engine.proofs.order.order_from.Goals as goal

pub returns : goal.returns
returns c =
    order_found c.args.netlist.now c.loop-root.walk c.loop-root.invariant.stands c.loop-root.invariant.idle (λ place b. c.loop-root.invariant.found place (omega arith))
