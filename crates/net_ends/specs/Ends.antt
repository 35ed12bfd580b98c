-- What ports offer in wires, and what of it passes.
use Rattle.std.specs.Prelude.{◌≡◌, ℕ, List, length, Some, slice_get}
use Rattle.tl_edge.specs.declared.plan.PlanPort.{PlanPort}
use Rattle.tl_edge.specs.declared.plan.Plan.{Plan}
use Rattle.tl_edge.specs.Plans.{edge_at}
use Rattle.tl_edge.specs.Wires.{a_widths, d_widths}
use Rattle.net_build.specs.Built.{Built, IsBit}
use Rattle.net_build.specs.Registers.{AreWires}
use Rattle.net_queue.specs.declared.types.EdgeWires.{EdgeWires}
use Rattle.net_queue.specs.declared.types.Queue.{Queue}
use Rattle.net_queue.specs.Leaves.{IsPutInto}
use Rattle.net_parts.specs.declared.types.EndWires.{EndWires}
use Rattle.net_parts.specs.Wired.{IsPortEnd, wires_of_edge, wires_of_port}

-- what a port offers, in items with fields of these widths, and whether it takes
pub record IsEnd (b : Built) (widths : List ℕ) (port : EndWires) : Type 0 where
  pub valid : IsBit b port.put.valid
  pub take : IsBit b port.take
  pub long : length port.put.items ≡ length widths
  pub items : AreWires b widths port.put.items

-- the widths of what a source port offers
abbrev pub source_widths : Plan → PlanPort → List ℕ
source_widths plan at = a_widths (edge_at plan at.edge).bundle

-- the widths of what a sink port offers
abbrev pub sink_widths : Plan → PlanPort → List ℕ
sink_widths plan at = d_widths (edge_at plan at.edge).bundle

-- one for each of some ports, with the widths of its edge
pub record AreOfferEnds (b : Built) (widths : PlanPort → List ℕ) (ports : List PlanPort) (ends : List EndWires)
    : Type 0 where
  pub long : length ends ≡ length ports
  pub each : (port : ℕ) (at : PlanPort) → slice_get ports port ≡ Some at → IsEnd b (widths at) (wires_of_port ends port)

-- what passes of what a port offers, and the queues that it passes to and from
pub record IsGated (b : Built) (onto from : Queue) (offered gated : EndWires) : Type 0 where
  pub passes : IsPortEnd b onto from offered gated
  pub into : IsPutInto b onto gated.put
  pub take : IsBit b gated.take

-- at each source port requests go into its edge, and responses come from it
pub record AreSourceEnds (b : Built) (ports : List PlanPort) (edges : List EdgeWires) (offered gated : List EndWires)
    : Type 0 where
  pub long : length gated ≡ length ports
  pub each : (port : ℕ) (at : PlanPort) → slice_get ports port ≡ Some at
      → IsGated b (wires_of_edge edges at.edge).a (wires_of_edge edges at.edge).d (wires_of_port offered port)
      (wires_of_port gated port)

-- at each sink port responses go into its edge, and requests come from it
pub record AreSinkEnds (b : Built) (ports : List PlanPort) (edges : List EdgeWires) (offered gated : List EndWires)
    : Type 0 where
  pub long : length gated ≡ length ports
  pub each : (port : ℕ) (at : PlanPort) → slice_get ports port ≡ Some at
      → IsGated b (wires_of_edge edges at.edge).d (wires_of_edge edges at.edge).a (wires_of_port offered port)
      (wires_of_port gated port)
