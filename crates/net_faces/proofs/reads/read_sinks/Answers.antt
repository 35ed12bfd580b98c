use Rattle.std.proofs.Common.{◌≤◌, List, arith, length, subst, sym}
use Rattle.tl_edge.specs.declared.plan.PlanPort.{PlanPort}
use Rattle.tl_edge.specs.SoundPlans.{IsSoundEdge}
use Rattle.net_build.proofs.Steps.{adds_adds}
use Rattle.net_queue.proofs.Fitted.{adds_same}
use Rattle.net_faces.proofs.Heads.{SeesSink, edge_open, rows_begun, sink_rows_all, sink_rows_more, wires_read}
use Rattle.net_faces.proofs.PortSteps.{item_at, sink_sound}
use Rattle.net_faces.proofs.reads.read_sinks.Goals as goal

pub loop-at-init : goal.loop-at-init
loop-at-init c = record {
  adds = adds_same c.args.builder.now;
  rows = rows_begun (SeesSink c.args.builder.now c.args.plan.now c.args.edges.now) c.new-rows.result c.new-rows.ensures;
}

pub edge_at-edge-requires : goal.edge_at-edge-requires
edge_at-edge-requires c =
    let i = item_at c.args.plan.now.sinks _ c.loop-at.at-index c.at-item.result c.as_slice-at-items.ensures c.loop-at-test.true c.at-item.is in
    (sink_sound c.args.plan.now c.loop-at.at-index c.at-item.result c.requires.sound i.2).within

pub bounds-edges-at : goal.bounds-edges-at
bounds-edges-at c =
    let i = item_at c.args.plan.now.sinks _ c.loop-at.at-index c.at-item.result c.as_slice-at-items.ensures c.loop-at-test.true c.at-item.is in
    let s = sink_sound c.args.plan.now c.loop-at.at-index c.at-item.result c.requires.sound i.2 in
    omega (arith, s.within, c.requires.edges.long)

pub read_sink-requires-clause-sound : goal.read_sink-requires-clause-sound
read_sink-requires-clause-sound c =
    let i = item_at c.args.plan.now.sinks _ c.loop-at.at-index c.at-item.result c.as_slice-at-items.ensures c.loop-at-test.true c.at-item.is in
    subst IsSoundEdge (sym c.edge_at-edge.ensures) (sink_sound c.args.plan.now c.loop-at.at-index c.at-item.result c.requires.sound i.2).sound

pub read_sink-requires-clause-open : goal.read_sink-requires-clause-open
read_sink-requires-clause-open c =
    let i = item_at c.args.plan.now.sinks _ c.loop-at.at-index c.at-item.result c.as_slice-at-items.ensures c.loop-at-test.true c.at-item.is in
    let s = sink_sound c.args.plan.now c.loop-at.at-index c.at-item.result c.requires.sound i.2 in
    edge_open c.args.builder.now c.loop-at.builder c.args.plan.now c.args.edges.now c.at-item.result.edge _ c.index-edges-at.result c.requires.edges c.loop-at.invariant.adds s.within c.edge_at-edge.ensures c.index-edges-at.is

pub loop-at-preserved : goal.loop-at-preserved
loop-at-preserved c =
    let i = item_at c.args.plan.now.sinks _ c.loop-at.at-index c.at-item.result c.as_slice-at-items.ensures c.loop-at-test.true c.at-item.is in
    let s = sink_sound c.args.plan.now c.loop-at.at-index c.at-item.result c.requires.sound i.2 in
    let step = c.in_ok-row.ensures in
    record {
      adds = adds_adds _ _ _ c.loop-at.invariant.adds step.adds;
      rows = sink_rows_more c.loop-at.builder _ c.args.plan.now c.args.edges.now c.loop-at.at-index c.at-item.result _ c.index-edges-at.result c.loop-at.rows _ c.in_ok-row.row i.0 i.1 c.edge_at-edge.ensures
          (wires_read c.args.builder.now c.args.plan.now c.args.edges.now c.at-item.result.edge c.index-edges-at.result c.requires.edges s.within c.index-edges-at.is) step.adds c.loop-at.invariant.rows step.shows c.in_ok-push.ensures.ok;
    }

pub returns-clause-rows : goal.returns-clause-rows
returns-clause-rows c =
    sink_rows_all c.loop-at.builder c.args.plan.now c.args.edges.now c.loop-at.rows c.loop-at.at-index
    (subst (λ (xs : List PlanPort). length xs ≤ c.loop-at.at-index) c.as_slice-at-items.ensures c.loop-at-test.false) c.loop-at.invariant.rows
