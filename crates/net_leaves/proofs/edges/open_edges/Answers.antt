use Rattle.std.proofs.Common.{ℕ, ◌+◌, length, ap, ◌∙◌}
use Rattle.std.proofs.lemmas.List.{length_push}
use Rattle.net_leaves.proofs.Opened.{edge_here, edges_more, opens_more}
use Rattle.net_leaves.proofs.edges.open_edges.Goals as goal

pub loop-edge-preserved : goal.loop-edge-preserved
loop-edge-preserved c =
    let i = c.loop-edge.invariant in
    let w = c.in_ok-wires.wires in
    let o = c.in_ok-wires.ensures.opens in
    let p = c.in_ok-push.ensures.ok in
    let k = c.loop-edge.edge-index in
    let here = edge_here c.args.plan.now k c.edge-item.result c.as_slice-stated.result.now c.as_slice-stated.ensures c.loop-edge-test.true c.edge-item.is in
    record {
      opens = opens_more _ _ _ c.loop-edge.edges _ w i.opens o p;
      long = ap length p ∙ length_push c.loop-edge.edges w ∙ ap (λ (n : ℕ). n + 1) i.long;
      each = edges_more _ _ c.args.plan.now k c.loop-edge.edges _ c.edge-item.result w _ i.long o i.each here c.in_ok-wires.ensures.edge p;
    }
