use Rattle.flow_choice.specs.Choosing.{leaf_moves}
use Rattle.flow_choice.proofs.Adding.{one_added}
use Rattle.flow_choice.proofs.cycle.add_leaves.Goals as goal

pub loop-leaf-preserved : goal.loop-leaf-preserved
loop-leaf-preserved c =
    one_added (leaf_moves c.args.network.now) c.loop-leaf.list _ c.add_leaf.new.list c.loop-leaf.leaf _ c.loop-leaf-test.true c.loop-leaf.invariant (c.in_ok-add_leaf.ensures)
