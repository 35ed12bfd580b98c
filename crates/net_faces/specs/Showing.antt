-- What the outputs of a netlist show of its queues. Only what isn't public beyond this repository's netlists cites it.
use Rattle.std.specs.Prelude.{◌≡◌, ℕ, List, [], ◌∷◌, ◌++◌, get_or, length, Some, slice_get}
use Rattle.tl_edge.specs.declared.plan.PlanEdge.{PlanEdge}
use Rattle.tl_edge.specs.declared.plan.PlanPort.{PlanPort}
use Rattle.tl_edge.specs.declared.plan.Plan.{Plan}
use Rattle.tl_edge.specs.Plans.{edge_at}
use Rattle.tl_edge.specs.Wires.{a_widths, d_widths}
use Rattle.net_cells.specs.declared.netlist.OutPort.{OutPort}
use Rattle.net_cells.specs.declared.netlist.Port.{Port}
use Rattle.net_build.specs.declared.types.Wire.{Wire}
use Rattle.net_build.specs.Bits.{row_picked, wire_values}
use Rattle.net_build.specs.Built.{Built}
use Rattle.net_build.specs.Registers.{AreWires}
use Rattle.net_build.specs.Values.{Solves, high}
use Rattle.net_queue.specs.declared.types.EdgeWires.{EdgeWires}
use Rattle.net_queue.specs.declared.types.Queue.{Queue}
use Rattle.net_ports.specs.Rows.{shown_outputs, widths_of_ports}
use Rattle.net_parts.specs.Wired.{wires_of_edge}

-- the values of a queue's head: whether there is one, and its fields, all 0 where there is none
abbrev pub head_values : (ℕ → ℕ) → Queue → List ℕ
head_values v queue =
    v queue.valid.number
    ∷ row_picked (length queue.head) (high v queue.valid ∷ []) (wire_values v queue.head ∷ [])

-- a row of wires shows the head of a queue
pub record ShowsHead (b : Built) (queue : Queue) (row : List Wire) : Type 0 where
  pub at : (v : ℕ → ℕ) → Solves b v → wire_values v row ≡ head_values v queue

-- a row of wires shows what a source port sees of its edge
pub record ShowsSource (b : Built) (edge : PlanEdge) (wires : EdgeWires) (row : List Wire) : Type 0 where
  pub long : length row ≡ 7
  pub wide : AreWires b (1 ∷ 1 ∷ d_widths edge.bundle) row
  pub at : (v : ℕ → ℕ) → Solves b v → wire_values v row ≡ v wires.a.ready.number ∷ head_values v wires.d

-- a row of wires shows what a sink port sees of its edge
pub record ShowsSink (b : Built) (edge : PlanEdge) (wires : EdgeWires) (row : List Wire) : Type 0 where
  pub long : length row ≡ 9
  pub wide : AreWires b (1 ∷ a_widths edge.bundle ++ 1 ∷ []) row
  pub at : (v : ℕ → ℕ) → Solves b v → wire_values v row ≡ head_values v wires.a ++ v wires.d.ready.number ∷ []

-- outputs that show a row of wires at each port
abbrev pub all_shown : (PlanPort → List Port) → List PlanPort → List (List Wire) → List OutPort
all_shown ports [] rows = []
all_shown ports (at ∷ all) [] = []
all_shown ports (at ∷ all) (row ∷ rows) = shown_outputs (ports at) row ++ all_shown ports all rows

-- rows of wires that outputs of some ports can show
pub record AreRowsOf (b : Built) (ports : PlanPort → List Port) (all : List PlanPort) (rows : List (List Wire))
    : Type 0 where
  pub long : length rows ≡ length all
  pub each : (port : ℕ) (at : PlanPort) → slice_get all port ≡ Some at
      → (length (get_or rows port []) ≡ length (ports at))
      × AreWires b (widths_of_ports (ports at)) (get_or rows port [])

-- a row for each source port
pub record AreSourceRows (b : Built) (plan : Plan) (edges : List EdgeWires) (rows : List (List Wire)) : Type 0 where
  pub long : length rows ≡ length plan.sources
  pub each : (port : ℕ) (at : PlanPort) → slice_get plan.sources port ≡ Some at
      → ShowsSource b (edge_at plan at.edge) (wires_of_edge edges at.edge) (get_or rows port [])

-- a row for each sink port
pub record AreSinkRows (b : Built) (plan : Plan) (edges : List EdgeWires) (rows : List (List Wire)) : Type 0 where
  pub long : length rows ≡ length plan.sinks
  pub each : (port : ℕ) (at : PlanPort) → slice_get plan.sinks port ≡ Some at
      → ShowsSink b (edge_at plan at.edge) (wires_of_edge edges at.edge) (get_or rows port [])
