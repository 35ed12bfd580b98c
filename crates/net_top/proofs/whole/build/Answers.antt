use Rattle.std.proofs.Common.{List, subst}
use Rattle.net_queue.specs.declared.types.EdgeWires.{EdgeWires}
use Rattle.net_leaves.proofs.Later.{edges_kept, leaves_later}
use Rattle.net_ends.proofs.Later.{sink_ends_later, source_ends_later}
use Rattle.net_faces.specs.Showing.{AreSinkRows, AreSourceRows}
use Rattle.net_faces.proofs.Later.{sink_rows_fit, sink_rows_later, source_rows_fit, source_rows_later}
use Rattle.net_top.proofs.Composed.{closed_of, sinks_put, sources_put, whole}
use Rattle.net_top.proofs.whole.build.Goals as goal

pub close_edges-requires-clause-edges : goal.close_edges-requires-clause-edges
close_edges-requires-clause-edges c =
    let a = c.in_ok-shown.ensures.adds in
    rw c.as_slice-edges.ensures (edges_kept _ _ c.args.plan.now c.in_ok-laid.laid.edges a.later a.undriven c.in_ok-laid.ensures.edges)

pub close_edges-requires-clause-leaves : goal.close_edges-requires-clause-leaves
close_edges-requires-clause-leaves c =
    rw c.as_slice-edges.ensures (rw c.as_slice.ensures (leaves_later _ _ c.args.plan.now c.in_ok-laid.laid.edges _ c.in_ok-laid.laid.leaves c.in_ok-shown.ensures.adds.later c.in_ok-laid.ensures.laid.leaves))

pub close_edges-requires-clause-sources : goal.close_edges-requires-clause-sources
close_edges-requires-clause-sources c =
    rw c.as_slice-edges.ensures (rw c.as_slice-2.ensures (sources_put _ c.args.plan.now.sources c.in_ok-laid.laid.edges c.in_ok-ports.ports.sources c.in_ok-laid.laid.sources
    (source_ends_later _ _ c.args.plan.now.sources c.in_ok-laid.laid.edges c.in_ok-ports.ports.sources c.in_ok-laid.laid.sources c.in_ok-shown.ensures.adds.later c.in_ok-laid.ensures.laid.sources)))

pub close_edges-requires-clause-sinks : goal.close_edges-requires-clause-sinks
close_edges-requires-clause-sinks c =
    rw c.as_slice-edges.ensures (rw c.as_slice-3.ensures (sinks_put _ c.args.plan.now.sinks c.in_ok-laid.laid.edges c.in_ok-ports.ports.sinks c.in_ok-laid.laid.sinks
    (sink_ends_later _ _ c.args.plan.now.sinks c.in_ok-laid.laid.edges c.in_ok-ports.ports.sinks c.in_ok-laid.laid.sinks c.in_ok-shown.ensures.adds.later c.in_ok-laid.ensures.laid.sinks)))

pub show_ports-requires-clause-sources : goal.show_ports-requires-clause-sources
show_ports-requires-clause-sources c =
    source_rows_fit _ c.args.plan.now c.as_slice-edges.result.now c.in_ok-shown.shown.sources
    (source_rows_later _ _ c.args.plan.now c.as_slice-edges.result.now c.in_ok-shown.shown.sources c.in_ok-close_edges.ensures.drives.later c.in_ok-shown.ensures.sources)

pub show_ports-requires-clause-sinks : goal.show_ports-requires-clause-sinks
show_ports-requires-clause-sinks c =
    sink_rows_fit _ c.args.plan.now c.as_slice-edges.result.now c.in_ok-shown.shown.sinks
    (sink_rows_later _ _ c.args.plan.now c.as_slice-edges.result.now c.in_ok-shown.shown.sinks c.in_ok-close_edges.ensures.drives.later c.in_ok-shown.ensures.sinks)

pub returns-clause-implements : goal.returns-clause-implements
returns-clause-implements c =
    let plan = c.args.plan.now in
    let laid = c.in_ok-laid.laid in
    let shown = c.in_ok-shown.shown in
    let e = c.as_slice-edges.ensures in
    c.whole_law.ensures _ plan c.in_ok-ports.ports laid shown c.in_ok-netlist.netlist c.requires.sound
    (whole plan c.in_ok-ports.ports laid shown _ _ _ _ c.in_ok-builder.ensures c.in_ok-ports.ensures.adds c.in_ok-laid.ensures.opens c.in_ok-shown.ensures.adds c.requires.sound _ _ _
    (record {
      sources = c.in_ok-ports.ensures.sources;
      sinks = c.in_ok-ports.ensures.sinks;
      read_sources = c.in_ok-ports.ensures.read_sources;
      read_sinks = c.in_ok-ports.ensures.read_sinks;
    })
    c.in_ok-laid.ensures.edges c.in_ok-laid.ensures.laid
    (subst (λ (es : List EdgeWires). AreSourceRows c.read_ports.new.builder plan es shown.sources) e c.in_ok-shown.ensures.sources)
    (subst (λ (es : List EdgeWires). AreSinkRows c.read_ports.new.builder plan es shown.sinks) e c.in_ok-shown.ensures.sinks)
    c.in_ok-close_edges.ensures.drives c.in_ok-close_edges.ensures.none
    (closed_of _ plan laid _ _ _ _ e c.as_slice.ensures c.as_slice-2.ensures c.as_slice-3.ensures c.in_ok-close_edges.ensures.closed)
    c.in_ok-show_ports.ensures)
    c.in_ok-netlist.ensures.netlist c.in_ok-netlist.ensures.carries

pub returns-clause-runs : goal.returns-clause-runs
returns-clause-runs c = c.port_runs_law.ensures c.args.plan.now c.in_ok-netlist.netlist c.in_ok-netlist.ensures.well_formed c.in_ok-netlist.ensures.no_loop (returns-clause-implements c).ports

pub returns-clause-again : goal.returns-clause-again
returns-clause-again c = c.reset_law.ensures c.args.plan.now c.in_ok-netlist.netlist c.in_ok-netlist.ensures.resets (returns-clause-implements c)
