use Rattle.std.proofs.Common.{◌≡◌, take, map}
use Rattle.flow_core.specs.Built.{fixed_of}
use Rattle.flow_core.proofs.ways.fixed_leaves.Given as goal

abbrev pub invariant-loop-leaf : goal.invariant-loop-leaf
invariant-loop-leaf l = l.fixed ≡ map (fixed_of l.plan) (take l.leaf-index l.plan.leaves)
