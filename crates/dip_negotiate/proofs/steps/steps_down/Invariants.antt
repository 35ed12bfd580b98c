use Rattle.std.proofs.Common.{◌≡◌, ◌++◌, drop}
use Rattle.dip_negotiate.specs.Places.{steps_down}
use Rattle.dip_negotiate.proofs.steps.steps_down.Given as goal

abbrev pub invariant-loop-node : goal.invariant-loop-node
invariant-loop-node l = l.steps ++ steps_down (drop l.node-index l.order) l.edges ≡ steps_down l.order l.edges
