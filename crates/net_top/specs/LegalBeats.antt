-- That what the netlist of a plan is promised for covers all legal traffic.
use Rattle.std.specs.Prelude.{All, IsTrue}
use Rattle.tl_edge.specs.declared.message.Request.{Request}
use Rattle.tl_edge.specs.declared.message.Response.{Response}
use Rattle.tl_edge.specs.declared.plan.PlanEdge.{PlanEdge}
use Rattle.tl_edge.specs.Beats.{beats_of_request, beats_of_response}
use Rattle.tl_edge.specs.Legal.{IsLegalOn}
use Rattle.tl_edge.specs.Messages.{IsWholeResponse}
use Rattle.tl_edge.specs.Plans.{bus_width}
use Rattle.tl_edge.specs.SoundPlans.{IsSoundEdge}
use Rattle.flow_core.specs.Carried.{carries_a, carries_d}

-- a sound edge carries each beat of a request that is legal on it, and each beat of a whole response to it
pub record LegalBeatsLaw : Type 0 where
  pub requests : (edge : PlanEdge) (request : Request) → IsSoundEdge edge → IsLegalOn edge request
      → All (λ beat. IsTrue (carries_a edge beat)) (beats_of_request (bus_width edge) request)
  pub responses : (edge : PlanEdge) (request : Request) (response : Response) → IsSoundEdge edge
      → IsLegalOn edge request → IsWholeResponse request response
      → All (λ beat. IsTrue (carries_d edge beat)) (beats_of_response (bus_width edge) request.address response)
