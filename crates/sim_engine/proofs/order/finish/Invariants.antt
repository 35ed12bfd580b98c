use Rattle.sim_engine.specs.Walks.{Goes, left}
use Rattle.sim_engine.proofs.order.finish.Given as goal

abbrev pub invariant-loop-top : goal.invariant-loop-top
invariant-loop-top l = Goes l.netlist l.fn.walk l.walk

abbrev pub decreases-loop-top : goal.decreases-loop-top
decreases-loop-top l = left l.walk.marks.items l.walk.stack.items
