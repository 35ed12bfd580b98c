use Rattle.std.proofs.Common.{◌≡◌, ◌++◌, drop, map}
use Rattle.sim_engine.specs.Orders.{step_at}
use Rattle.sim_engine.proofs.steps.steps_of.Given as goal

abbrev pub invariant-loop-place : goal.invariant-loop-place
invariant-loop-place l = l.steps.items ++ map (step_at l.netlist l.positions) (drop l.place-index l.order) ≡ map (step_at l.netlist l.positions) l.order
