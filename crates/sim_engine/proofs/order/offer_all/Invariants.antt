use Rattle.sim_engine.specs.Walks.{IsIdle}
use Rattle.sim_engine.proofs.order.offer_all.Given as goal

abbrev pub invariant-loop-place : goal.invariant-loop-place
invariant-loop-place l = IsIdle l.netlist l.walk
