-- One port of a plan at a time. Only what isn't public cites it.
use Rattle.std.specs.Prelude.{◌≡◌, ◌<◌, List, length}
use Rattle.tl_edge.specs.declared.plan.PlanPort.{PlanPort}
use Rattle.tl_edge.specs.declared.plan.Plan.{Plan}
use Rattle.tl_edge.specs.Plans.{edge_at}
use Rattle.tl_edge.specs.SoundPlans.{IsShort, IsSoundEdge}
use Rattle.net_cells.specs.declared.netlist.Port.{Port}
use Rattle.net_build.specs.declared.types.Wire.{Wire}
use Rattle.net_build.specs.Built.{Built, inputs}
use Rattle.net_ports.specs.Rows.{AddsInputs, AreRead}

-- a port that a sound plan may have: its edge is a sound one of the plan's, and its name and number are small
pub record IsSoundPort (plan : Plan) (at : PlanPort) : Type 0 where
  pub within : at.edge < length plan.edges
  pub sound : IsSoundEdge (edge_at plan at.edge)
  pub short : IsShort at

-- a later builder with these inputs more, and a wire for each, which has its value
pub record ReadsInputs (old new : Built) (ports : List Port) (ws : List Wire) : Type 0 where
  pub adds : AddsInputs old new ports
  pub long : length ws ≡ length ports
  pub read : AreRead new (length (inputs old)) ws
