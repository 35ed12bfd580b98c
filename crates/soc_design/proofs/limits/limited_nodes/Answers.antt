use Rattle.std.proofs.Common.{◌∙◌, ap, sym, arith, length}
use Rattle.soc_design.specs.Stated as spec
use Rattle.dip_graph.specs.Limits.{most_nodes}
use Rattle.soc_design.specs.Reading.{node_is_beyond}
use Rattle.toml_shape.proofs.Failing.{passes}
use Rattle.toml_shape.proofs.Stating.{states_more, within, one_more}
use Rattle.soc_design.proofs.limits.limited_nodes.Goals as goal

pub loop-place-preserved : goal.loop-place-preserved
loop-place-preserved c =
    let states = sym c.in_ok-node.ensures ∙ c.in-Some.is in
    record {
      few = omega arith;
      counted = ap length c.in_ok-push.ensures.ok ∙ one_more _ _ _ c.loop-place.invariant.counted;
      stated =
          rw c.in_ok-push.ensures.ok
          (states_more spec.node_of c.loop-place.place c.args.nodes.now c.index-nodes-place.result _ _ c.index-nodes-place.is c.loop-place-test.true states
          ∙ c.loop-place.invariant.stated);
      passes =
          passes node_is_beyond c.loop-place.place _ _ c.args.nodes.now c.index-nodes-place.result c.index-nodes-place.is c.loop-place-test.true (omega arith)
          (within most_nodes _ _ _ c.if-place-ge-MOST_NODES.false states)
          ∙ c.loop-place.invariant.passes;
    }
