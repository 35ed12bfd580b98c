-- What outputs show of the queues: it stays as a builder grows, and fits the outputs.
use Rattle.std.proofs.Common.{List}
use Rattle.tl_edge.specs.declared.plan.PlanEdge.{PlanEdge}
use Rattle.tl_edge.specs.declared.plan.Plan.{Plan}
use Rattle.tl_edge.specs.Wires.{a_widths, d_widths}
use Rattle.std.specs.Prelude.{[], ◌∷◌, ◌++◌}
use Rattle.net_build.specs.declared.types.Wire.{Wire}
use Rattle.net_build.specs.Built.{Built}
use Rattle.net_build.specs.Values.{Later}
use Rattle.net_build.proofs.OpenedLists.{widths_later}
use Rattle.net_queue.specs.declared.types.EdgeWires.{EdgeWires}
use Rattle.net_ports.specs.Ports.{sink_outputs, source_outputs}
use Rattle.net_faces.specs.Showing.{AreRowsOf, AreSinkRows, AreSourceRows, ShowsSink, ShowsSource}

pub source_later : (old new : Built) (edge : PlanEdge) (wires : EdgeWires) (row : List Wire) → Later old new → ShowsSource old edge wires row → ShowsSource new edge wires row
source_later old new edge wires row g h = record {
  long = h.long;
  wide = widths_later old new (1 ∷ 1 ∷ d_widths edge.bundle) row g h.wide;
  at = λ v s. h.at v (g.back v s);
}

pub sink_later : (old new : Built) (edge : PlanEdge) (wires : EdgeWires) (row : List Wire) → Later old new → ShowsSink old edge wires row → ShowsSink new edge wires row
sink_later old new edge wires row g h = record {
  long = h.long;
  wide = widths_later old new (1 ∷ a_widths edge.bundle ++ 1 ∷ []) row g h.wide;
  at = λ v s. h.at v (g.back v s);
}

pub source_rows_later : (old new : Built) (plan : Plan) (edges : List EdgeWires) (rows : List (List Wire)) → Later old new → AreSourceRows old plan edges rows → AreSourceRows new plan edges rows
source_rows_later old new plan edges rows g h = record {
  long = h.long;
  each = λ port at e. source_later old new _ _ _ g (h.each port at e);
}

pub sink_rows_later : (old new : Built) (plan : Plan) (edges : List EdgeWires) (rows : List (List Wire)) → Later old new → AreSinkRows old plan edges rows → AreSinkRows new plan edges rows
sink_rows_later old new plan edges rows g h = record {
  long = h.long;
  each = λ port at e. sink_later old new _ _ _ g (h.each port at e);
}

pub source_rows_fit : (b : Built) (plan : Plan) (edges : List EdgeWires) (rows : List (List Wire)) → AreSourceRows b plan edges rows → AreRowsOf b (source_outputs plan) plan.sources rows
source_rows_fit b plan edges rows h = record {
  long = h.long;
  each = λ port at e. let x = h.each port at e in (x.long, x.wide);
}

pub sink_rows_fit : (b : Built) (plan : Plan) (edges : List EdgeWires) (rows : List (List Wire)) → AreSinkRows b plan edges rows → AreRowsOf b (sink_outputs plan) plan.sinks rows
sink_rows_fit b plan edges rows h = record {
  long = h.long;
  each = λ port at e. let x = h.each port at e in (x.long, x.wide);
}
