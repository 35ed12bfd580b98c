use Rattle.net_build.proofs.Steps.{adds_adds, later_later}
use Rattle.net_leaves.proofs.Later.{edges_kept}
use Rattle.net_ends.proofs.Later.{offers_later}
use Rattle.net_queue.proofs.Opening.{opens_adds}
use Rattle.net_top.proofs.Composed.{laid_of}
use Rattle.net_top.proofs.whole.lay.Goals as goal

pub gate_sources-requires-clause-edges : goal.gate_sources-requires-clause-edges
gate_sources-requires-clause-edges c =
    let a = c.in_ok-leaves.ensures.adds in
    rw c.as_slice-2.ensures (edges_kept _ _ c.args.plan.now c.in_ok-edges.edges a.later a.undriven c.in_ok-edges.ensures.edges)

pub gate_sources-requires-clause-offered : goal.gate_sources-requires-clause-offered
gate_sources-requires-clause-offered c =
    rw c.as_slice-3.ensures (offers_later _ _ _ _ c.args.ports.now.sources (later_later _ _ _ c.in_ok-edges.ensures.opens.later c.in_ok-leaves.ensures.adds.later) c.requires.sources)

pub gate_sinks-requires-clause-edges : goal.gate_sinks-requires-clause-edges
gate_sinks-requires-clause-edges c =
    let a = adds_adds _ _ _ c.in_ok-leaves.ensures.adds c.in_ok-sources.ensures.adds in
    rw c.as_slice-4.ensures (edges_kept _ _ c.args.plan.now c.in_ok-edges.edges a.later a.undriven c.in_ok-edges.ensures.edges)

pub gate_sinks-requires-clause-offered : goal.gate_sinks-requires-clause-offered
gate_sinks-requires-clause-offered c =
    let a = adds_adds _ _ _ c.in_ok-leaves.ensures.adds c.in_ok-sources.ensures.adds in
    rw c.as_slice-5.ensures (offers_later _ _ _ _ c.args.ports.now.sinks (later_later _ _ _ c.in_ok-edges.ensures.opens.later a.later) c.requires.sinks)

pub returns-clause-opens : goal.returns-clause-opens
returns-clause-opens c =
    opens_adds _ _ _ _ c.in_ok-edges.ensures.opens (adds_adds _ _ _ (adds_adds _ _ _ c.in_ok-leaves.ensures.adds c.in_ok-sources.ensures.adds) c.in_ok-sinks.ensures.adds)

pub returns-clause-edges : goal.returns-clause-edges
returns-clause-edges c =
    let a = adds_adds _ _ _ (adds_adds _ _ _ c.in_ok-leaves.ensures.adds c.in_ok-sources.ensures.adds) c.in_ok-sinks.ensures.adds in
    edges_kept _ _ c.args.plan.now c.in_ok-edges.edges a.later a.undriven c.in_ok-edges.ensures.edges

pub returns-clause-laid : goal.returns-clause-laid
returns-clause-laid c =
    laid_of _ _ _ c.args.plan.now c.args.ports.now _ _ _ _ _ _ c.as_slice.ensures c.as_slice-2.ensures c.as_slice-4.ensures c.as_slice-3.ensures c.as_slice-5.ensures
    c.in_ok-sources.ensures.adds c.in_ok-sinks.ensures.adds c.in_ok-leaves.ensures.leaves c.in_ok-sources.ensures.ends c.in_ok-sinks.ensures.ends
