use Rattle.std.proofs.Common.{◌≡◌, ◌<◌, length, ap, arith}
use Rattle.net_build.proofs.Steps.{adds_adds}
use Rattle.net_queue.specs.declared.types.EdgeWires.{EdgeWires}
use Rattle.net_ends.specs.Ends.{sink_widths}
use Rattle.net_ends.proofs.Gated.{edge_is, gated_more, offer_here, offer_is, open_here, port_is, sink_within, sinks_gated}
use Rattle.net_ends.proofs.gates.gate_sinks.Goals as goal

pub bounds-edges-at : goal.bounds-edges-at
bounds-edges-at c =
    let at = c.index-ports-port.result in
    let is = port_is c.args.plan.now.sinks c.as_slice-ports.result.now c.loop-port.port at c.as_slice-ports.ensures c.loop-port-test.true c.index-ports-port.is in
    omega (arith, sink_within c.args.plan.now c.loop-port.port at c.requires.sound is, c.requires.edges.long)

pub gate_port-requires-clause-open : goal.gate_port-requires-clause-open
gate_port-requires-clause-open c =
    let at = c.index-ports-port.result in
    let is = port_is c.args.plan.now.sinks c.as_slice-ports.result.now c.loop-port.port at c.as_slice-ports.ensures c.loop-port-test.true c.index-ports-port.is in
    let within : at.edge < length c.args.plan.now.edges = sink_within c.args.plan.now c.loop-port.port at c.requires.sound is in
    let l : at.edge < length c.args.edges.now = omega (arith, within, c.requires.edges.long) in
    let edge = open_here _ _ c.args.plan.now c.args.edges.now at.edge c.index-edges-at.result c.loop-port.invariant.adds c.requires.edges within (edge_is c.args.edges.now at.edge c.index-edges-at.result l c.index-edges-at.is) in
    (edge.d, edge.a)

pub gate_port-requires-clause-offered : goal.gate_port-requires-clause-offered
gate_port-requires-clause-offered c =
    let at = c.index-ports-port.result in
    let is = port_is c.args.plan.now.sinks c.as_slice-ports.result.now c.loop-port.port at c.as_slice-ports.ensures c.loop-port-test.true c.index-ports-port.is in
    let within : at.edge < length c.args.plan.now.edges = sink_within c.args.plan.now c.loop-port.port at c.requires.sound is in
    let l : at.edge < length c.args.edges.now = omega (arith, within, c.requires.edges.long) in
    let m : c.loop-port.port < length c.args.offered.now = omega (arith, c.loop-port-test.true, ap length c.as_slice-ports.ensures, c.requires.offered.long) in
    let edge = open_here _ _ c.args.plan.now c.args.edges.now at.edge c.index-edges-at.result c.loop-port.invariant.adds c.requires.edges within (edge_is c.args.edges.now at.edge c.index-edges-at.result l c.index-edges-at.is) in
    offer_here _ _ (sink_widths c.args.plan.now) c.args.plan.now.sinks c.args.offered.now c.loop-port.port at c.index-offered-port.result _ c.loop-port.invariant.adds c.requires.offered is
    (offer_is c.args.offered.now c.loop-port.port c.index-offered-port.result m c.index-offered-port.is) edge.d_widths

pub loop-port-preserved : goal.loop-port-preserved
loop-port-preserved c =
    let i = c.loop-port.invariant in
    let g = c.in_ok-end.ensures.adds in
    let at = c.index-ports-port.result in
    let is = port_is c.args.plan.now.sinks c.as_slice-ports.result.now c.loop-port.port at c.as_slice-ports.ensures c.loop-port-test.true c.index-ports-port.is in
    let within : at.edge < length c.args.plan.now.edges = sink_within c.args.plan.now c.loop-port.port at c.requires.sound is in
    let l : at.edge < length c.args.edges.now = omega (arith, within, c.requires.edges.long) in
    let m : c.loop-port.port < length c.args.offered.now = omega (arith, c.loop-port-test.true, ap length c.as_slice-ports.ensures, c.requires.offered.long) in
    record {
      adds = adds_adds _ _ _ i.adds g;
      gated = gated_more _ _ (λ (edge : EdgeWires). edge.d) (λ (edge : EdgeWires). edge.a) c.args.plan.now.sinks c.args.edges.now c.args.offered.now c.loop-port.ends _ c.loop-port.port at c.index-edges-at.result c.index-offered-port.result c.in_ok-end.end
          g.later i.gated is (edge_is c.args.edges.now at.edge c.index-edges-at.result l c.index-edges-at.is) (offer_is c.args.offered.now c.loop-port.port c.index-offered-port.result m c.index-offered-port.is) c.in_ok-end.ensures.gated
          c.in_ok-push.ensures.ok;
    }

pub returns-clause-ends : goal.returns-clause-ends
returns-clause-ends c =
    let all : c.loop-port.port ≡ length c.args.plan.now.sinks = omega (arith, ap length c.as_slice-ports.ensures, c.loop-port-test.false) in
    sinks_gated _ c.args.plan.now.sinks c.args.edges.now c.args.offered.now c.loop-port.ends c.loop-port.port c.loop-port.invariant.gated all
