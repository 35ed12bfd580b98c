-- How the plan of a design stands to it, to its edges, and to what goes down and up them.
use Rattle.std.specs.Prelude.{ℕ, ◌≡◌, ◌<◌, List, length, Some, slice_get, All, AllPairs, Contains}
use Rattle.tl_params.specs.Owners.{largest_end}
use Rattle.tl_params.specs.declared.ports.DownPort.{DownPort}
use Rattle.tl_params.specs.declared.ports.UpPort.{UpPort}
use Rattle.tl_params.specs.declared.ports.Slave.{Slave}
use Rattle.tl_params.specs.declared.ops.Ops.{Ops}
use Rattle.tl_edge.specs.declared.plan.PlanEdge.{PlanEdge}
use Rattle.tl_edge.specs.declared.plan.PlanPort.{PlanPort}
use Rattle.tl_edge.specs.declared.plan.Plan.{Plan}
use Rattle.tl_edge.specs.Bundles.{bundle}
use Rattle.dip_graph.specs.declared.design.NodeKind.{NodeKind}
use Rattle.dip_graph.specs.declared.design.NodeKind.TheVariants.{Source, Sink, Ruled}
use Rattle.dip_graph.specs.declared.design.NodeEntry.{NodeEntry}
use Rattle.dip_graph.specs.declared.design.Design.{Design}
use Rattle.dip_graph.specs.declared.edges.Edge.{Edge}
use Rattle.dip_negotiate.specs.declared.solution.Solution.{Solution}
use Rattle.dip_negotiate.specs.Negotiation.{source_port}

-- how many ports a source has, none of another node
abbrev pub source_count : NodeKind → ℕ
source_count (Source ports ids emits) = ports
source_count (Sink beat ports supports) = 0
source_count (Ruled kind args) = 0

-- how many ports a sink has, none of another node
abbrev pub sink_count : NodeKind → ℕ
sink_count (Source ports ids emits) = 0
sink_count (Sink beat ports supports) = length ports
sink_count (Ruled kind args) = 0

-- a node has a port, where its kind has so many
pub record HasPort (count : NodeKind → ℕ) (nodes : List NodeEntry) (node port : ℕ) : Type 0 where
  pub entry : NodeEntry
  pub is : slice_get nodes node ≡ Some entry
  pub low : port < count entry.kind

-- A port of a plan is a node's: it has the node's name, and its edge has that node and port at this end.
pub record IsPortAt (count : NodeKind → ℕ) (node port : Edge → ℕ) (nodes : List NodeEntry) (edges : List Edge)
    (at : PlanPort) : Type 0 where
  pub has : HasPort count nodes at.node at.port
  pub name : at.name ≡ has.entry.name
  pub edge : Edge
  pub is : slice_get edges at.edge ≡ Some edge
  pub end_node : node edge ≡ at.node
  pub end_port : port edge ≡ at.port

-- these ports of a plan are the ports of the nodes that have some: each of them once
pub record ArePorts (count : NodeKind → ℕ) (node port : Edge → ℕ) (nodes : List NodeEntry) (edges : List Edge)
    (ports : List PlanPort) : Type 0 where
  pub each : All (IsPortAt count node port nodes edges) ports
  pub once : AllPairs (λ (a b : PlanPort). a.node ≡ b.node → a.port ≡ b.port → ⊥) ports
  pub all : (n p : ℕ) → HasPort count nodes n p
      → (at : PlanPort) × Contains ports at × (at.node ≡ n) × (at.port ≡ p)

-- an edge of a plan has the slaves that are seen on it, as many ids as the end of the last range, and their bundle
pub record IsEdgeOf (edge : PlanEdge) (down : DownPort) (up : UpPort) : Type 0 where
  pub slaves : edge.slaves ≡ up.slaves
  pub ids : edge.ids ≡ largest_end down.masters
  pub bundle : edge.bundle ≡ bundle up.slaves (largest_end down.masters) up.beat

-- both nodes of an edge exist
abbrev pub HasEnds : List NodeEntry → Edge → Type 0
HasEnds nodes edge = (edge.to < length nodes) × (edge.from < length nodes)

-- a slave is the port of a sink
abbrev pub IsSlaveOf : List NodeEntry → Slave → Type 0
IsSlaveOf nodes slave = HasPort sink_count nodes slave.node slave.port

-- A plan has an edge for each edge of the design, and the ports of its sources and sinks. What goes down the edge of a
-- source's port is that port's own; the nodes of edges are there, and each slave is a sink's port.
pub record StandsTo (design : Design) (edges : List Edge) (solution : Solution) (plan : Plan) : Type 0 where
  pub name : plan.name ≡ design.name
  pub policy : plan.policy ≡ design.policy
  pub downs : length solution.down ≡ length edges
  pub ups : length solution.up ≡ length edges
  pub long : length plan.edges ≡ length edges
  pub edge : (number : ℕ) (edge : PlanEdge) (down : DownPort) (up : UpPort)
      → slice_get plan.edges number ≡ Some edge → slice_get solution.down number ≡ Some down
      → slice_get solution.up number ≡ Some up → IsEdgeOf edge down up
  pub own : (number : ℕ) (at : PlanPort) (entry : NodeEntry) (ports ids : ℕ) (emits : Ops)
      → slice_get plan.sources number ≡ Some at → slice_get design.nodes at.node ≡ Some entry
      → entry.kind ≡ Source ports ids emits
      → slice_get solution.down at.edge ≡ Some (source_port at.node at.port ids emits)
  pub ends : All (HasEnds design.nodes) edges
  pub slaves : All (λ (up : UpPort). All (IsSlaveOf design.nodes) up.slaves) solution.up
  pub sources :
      ArePorts source_count (λ edge. edge.from) (λ edge. edge.from_port) design.nodes edges plan.sources
  pub sinks : ArePorts sink_count (λ edge. edge.to) (λ edge. edge.to_port) design.nodes edges plan.sinks
