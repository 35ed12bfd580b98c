use Rattle.sim_engine.specs.Orders.{AreSettled}
use Rattle.sim_engine.proofs.positions.settled_count.Given as goal

abbrev pub invariant-loop-at : goal.invariant-loop-at
invariant-loop-at l = AreSettled l.netlist l.order l.at
