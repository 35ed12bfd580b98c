-- Which requests are legal at a port: aligned and whole, with an id of a master that may send them, to an address
-- whose owner supports them.
use Rattle.std.specs.Prelude.{ℕ, ◌≡◌, ◌<◌, ◌^◌, List, Any, Some, slice_get, IsTrue}
use Rattle.dip_sets.specs.SizeRanges.{HasSize}
use Rattle.dip_sets.specs.Ids.{HasId}
use Rattle.tl_params.specs.declared.ports.Master.{Master}
use Rattle.tl_params.specs.declared.ports.Slave.{Slave}
use Rattle.tl_params.specs.Operations.{sizes_of}
use Rattle.tl_params.specs.OwnerLaw.{IsOwner, HaveSets}
use Rattle.tl_params.specs.Owners.{largest_end}
use Rattle.tl_edge.specs.declared.message.Request.{Request}
use Rattle.tl_edge.specs.declared.plan.PlanEdge.{PlanEdge}
use Rattle.tl_edge.specs.declared.plan.PlanPort.{PlanPort}
use Rattle.tl_edge.specs.declared.plan.Plan.{Plan}
use Rattle.tl_edge.specs.Messages.{IsWholeRequest, bytes_of, has_param}
use Rattle.tl_edge.specs.Plans.{edge_at}

-- a master has the id, and sends such requests
abbrev pub Emits : Request → Master → Type 0
Emits request m = HasId m.ids request.source × HasSize (sizes_of m.emits request.op) (bytes_of request.size)

-- the slave answers such requests
abbrev pub Supports : Request → Slave → Type 0
Supports request slave = HasSize (sizes_of slave.supports request.op) (bytes_of request.size)

-- the owner of its address, the slave one of whose sets has it, exists among some slaves and supports it
pub record IsOwned (slaves : List Slave) (request : Request) : Type 0 where
  pub place : ℕ
  pub slave : Slave
  pub owns : IsOwner slaves request.address (Some place)
  pub is : slice_get slaves place ≡ Some slave
  pub supports : Supports request slave

-- what a legal request has whoever sends it
pub record IsAnswerable (slaves : List Slave) (request : Request) : Type 0 where
  pub whole : IsWholeRequest request
  pub param : IsTrue (has_param request.op request.param)
  pub owned : IsOwned slaves request

-- legal at a port on whose edge these masters and slaves are
pub record IsLegal (masters : List Master) (slaves : List Slave) (request : Request) : Type 0 where
  pub answerable : IsAnswerable slaves request
  pub emitted : Any (Emits request) masters

-- the same where only a plan's edge is known: the id is one below the edge's end
pub record IsLegalOn (edge : PlanEdge) (request : Request) : Type 0 where
  pub answerable : IsAnswerable edge.slaves request
  pub id : request.source < edge.ids

-- legal at a source port of a plan: the port exists, and the request is legal on its edge
pub record IsLegalAt (plan : Plan) (port : ℕ) (request : Request) : Type 0 where
  pub at : PlanPort
  pub is : slice_get plan.sources port ≡ Some at
  pub legal : IsLegalOn (edge_at plan at.edge) request

-- what is legal by masters is legal on their edge; an owned address has at most 48 bits
pub record LegalLaw : Type 0 where
  pub by_masters : (masters : List Master) (edge : PlanEdge) (request : Request) → edge.ids ≡ largest_end masters
      → IsLegal masters edge.slaves request → IsLegalOn edge request
  pub address : (slaves : List Slave) (request : Request) → HaveSets slaves → IsOwned slaves request
      → request.address < 2 ^ 48
