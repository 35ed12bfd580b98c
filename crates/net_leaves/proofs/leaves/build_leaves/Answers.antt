use Rattle.std.proofs.Common.{arith}
use Rattle.tl_edge.proofs.Ways.{ends_law}
use Rattle.net_build.proofs.Steps.{adds_adds}
use Rattle.net_leaves.proofs.Between.{leaves_more}
use Rattle.net_leaves.proofs.Later.{edges_kept}
use Rattle.net_leaves.proofs.leaves.build_leaves.Goals as goal

pub overflow_cast-leaf : goal.overflow_cast-leaf
overflow_cast-leaf c = omega (arith, ends_law.leaves c.args.plan.now c.requires.sound)

pub build_leaf-requires-clause-edges : goal.build_leaf-requires-clause-edges
build_leaf-requires-clause-edges c =
    let g = c.loop-leaf.invariant.adds in
    edges_kept _ _ c.args.plan.now c.args.edges.now g.later g.undriven c.requires.edges

pub loop-leaf-preserved : goal.loop-leaf-preserved
loop-leaf-preserved c =
    let i = c.loop-leaf.invariant in
    let g = c.in_ok-wires.ensures.adds in
    record {
      adds = adds_adds _ _ _ i.adds g;
      leaves = leaves_more _ _ c.args.plan.now c.args.edges.now c.loop-leaf.leaf c.loop-leaf.leaves _ c.in_ok-wires.wires g.later i.leaves c.in_ok-wires.ensures.leaf c.in_ok-push.ensures.ok;
    }
