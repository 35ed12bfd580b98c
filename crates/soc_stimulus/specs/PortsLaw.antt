-- Which ports can be named: those of the design's sources, and those of its sinks.
use Rattle.std.specs.Prelude.{ℕ, ◌≡◌, ◌↔◌, List, IsSome, Some, slice_get}
use Rattle.tl_edge.specs.declared.plan.Plan.{Plan}
use Rattle.tl_edge.specs.declared.plan.PlanPort.{PlanPort}
use Rattle.dip_graph.specs.declared.design.Design.{Design}
use Rattle.dip_graph.specs.declared.edges.Edge.{Edge}
use Rattle.dip_negotiate.specs.declared.solution.Solution.{Solution}
use Rattle.dip_plan.specs.Standing.{HasPort, StandsTo, sink_count, source_count}
use Rattle.soc_stimulus.specs.Ports.{port_number}

-- the port with a number is this one of this node
pub record IsPortNumbered (ports : List PlanPort) (node port number : ℕ) : Type 0 where
  pub at : PlanPort
  pub is : slice_get ports number ≡ Some at
  pub node_is : at.node ≡ node
  pub port_is : at.port ≡ port

-- A node has a number for a port among the source ports exactly where it is a source with so many ports, and among the
-- sink ports exactly where it is a sink with so many; and the port with that number is that node's.
pub record StimulusPortsLaw : Type 0 where
  pub sources : (design : Design) (edges : List Edge) (solution : Solution) (plan : Plan) (node port : ℕ)
      → StandsTo design edges solution plan
      → IsSome (port_number plan.sources node port) ↔ HasPort source_count design.nodes node port
  pub sinks : (design : Design) (edges : List Edge) (solution : Solution) (plan : Plan) (node port : ℕ)
      → StandsTo design edges solution plan
      → IsSome (port_number plan.sinks node port) ↔ HasPort sink_count design.nodes node port
  pub numbered : (ports : List PlanPort) (node port number : ℕ) → port_number ports node port ≡ Some number
      → IsPortNumbered ports node port number
