-- The queues of all edges of a plan, before they are closed.
use Rattle.std.specs.Prelude.{◌≡◌, ℕ, ◌<◌, List, ◌++◌, flat_map, length}
use Rattle.tl_edge.specs.declared.plan.Plan.{Plan}
use Rattle.tl_edge.specs.Plans.{edge_at}
use Rattle.net_build.specs.declared.types.Wire.{Wire}
use Rattle.net_build.specs.Built.{Built}
use Rattle.net_queue.specs.declared.types.EdgeWires.{EdgeWires}
use Rattle.net_queue.specs.Leaves.{IsEdge}
use Rattle.net_queue.specs.Queues.{queue_registers}
use Rattle.net_parts.specs.Wired.{wires_of_edge}

-- the registers of both queues of an edge
abbrev pub edge_registers : EdgeWires → List Wire
edge_registers edge = queue_registers edge.a ++ queue_registers edge.d

-- of some edges, in order
abbrev pub all_registers : List EdgeWires → List Wire
all_registers edges = flat_map edge_registers edges

-- for each edge of a plan its two open queues, with the widths of its wires
pub record AreOpenEdges (b : Built) (plan : Plan) (edges : List EdgeWires) : Type 0 where
  pub long : length edges ≡ length plan.edges
  pub each : (edge : ℕ) → edge < length plan.edges → IsEdge b (edge_at plan edge) (wires_of_edge edges edge)
