use Rattle.std.proofs.Common.{◌≡◌, take, map}
use Rattle.flow_core.specs.Built.{open_gates}
use Rattle.flow_core.proofs.crossing.AllGates.open.Given as goal

abbrev pub invariant-loop-leaf : goal.invariant-loop-leaf
invariant-loop-leaf l = l.all.items ≡ map open_gates (take l.leaf-index l.plan.leaves)
