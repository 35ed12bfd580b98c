use Rattle.net_build.specs.Values.{Adds}
use Rattle.net_leaves.specs.LeafWiring.{AreLeavesInWires}
use Rattle.net_leaves.proofs.leaves.build_leaves.Given as goal

abbrev pub invariant-loop-leaf : goal.invariant-loop-leaf
invariant-loop-leaf l = record {
  adds : Adds l.fn.builder l.builder;
  leaves : AreLeavesInWires l.builder l.plan l.edges l.leaf l.leaves;
}
