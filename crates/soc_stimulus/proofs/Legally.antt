-- A request that is legal by the masters and slaves of the edge of its port is legal over the plan.
use Rattle.std.proofs.Common.{ℕ, ◌≡◌, List, [], All, Option, Some, None, refl, subst, arith}
use Rattle.std.specs.Prelude.{slice_get, Result, Ok, Err, IfOk}
use Rattle.std.specs.Option.{option_and_then, option_map_or}
use Rattle.std.proofs.lemmas.List.Elements.{All-weaker}
use Rattle.std.proofs.lemmas.Option.{slice_get_within}
use Rattle.tl_params.specs.declared.ports.DownPort.{DownPort}
use Rattle.tl_params.specs.declared.ports.UpPort.{UpPort}
use Rattle.tl_edge.specs.declared.message.Request.{Request}
use Rattle.tl_edge.specs.declared.plan.PlanPort.{PlanPort}
use Rattle.tl_edge.specs.declared.plan.Plan.{Plan}
use Rattle.tl_edge.specs.Legal.{IsLegal, IsLegalAt}
use Rattle.dip_graph.specs.declared.design.Design.{Design}
use Rattle.dip_graph.specs.declared.edges.Edge.{Edge}
use Rattle.dip_negotiate.specs.declared.solution.Solution.{Solution}
use Rattle.dip_plan.specs.Standing.{StandsTo}
use Rattle.dip_plan.proofs.Stands.{legal_over_plan}
use Rattle.sim_ports.specs.declared.stimulus.StimRequest.{StimRequest}
use Rattle.soc_stimulus.specs.declared.fault.StimFault.{StimFault}
use Rattle.soc_stimulus.specs.declared.read.Stimulus.{Stimulus}
use Rattle.soc_stimulus.specs.Requests.{IsLegalThere}
use Rattle.soc_stimulus.specs.Stimuli.{IsLegalAsked}

module _ (design : Design) (edges : List Edge) (solution : Solution) (plan : Plan) (stands : StandsTo design edges solution plan)
    (port : ℕ) (request : Request) where
  on_edge : (at : PlanPort) → slice_get plan.sources port ≡ Some at → (down : Option DownPort) (up : Option UpPort)
      → slice_get solution.down at.edge ≡ down → slice_get solution.up at.edge ≡ up
      → IsLegal (option_map_or (λ (d : DownPort). d.masters) down []) (option_map_or (λ (u : UpPort). u.slaves) up []) request → IsLegalAt plan port request
  on_edge at is None up d u legal = absurd (let none = legal.emitted.2 in omega arith)
  on_edge at is (Some down) None d u legal =
      absurd (let none = slice_get_within [] legal.answerable.owned.place legal.answerable.owned.slave legal.answerable.owned.is in omega arith)
  on_edge at is (Some down) (Some up) d u legal = legal_over_plan design edges solution plan stands port at down up request is d u legal

  at_port : (at : Option PlanPort) → slice_get plan.sources port ≡ at
      → IsLegal (option_map_or (λ (d : DownPort). d.masters) (option_and_then (λ (p : PlanPort). slice_get solution.down p.edge) at) [])
      (option_map_or (λ (u : UpPort). u.slaves) (option_and_then (λ (p : PlanPort). slice_get solution.up p.edge) at) []) request
      → IsLegalAt plan port request
  at_port None is legal = absurd (let none = legal.emitted.2 in omega arith)
  at_port (Some at) is legal = on_edge at is (slice_get solution.down at.edge) (slice_get solution.up at.edge) refl refl legal

pub legally : (design : Design) (edges : List Edge) (solution : Solution) (plan : Plan) → StandsTo design edges solution plan
    → (requests : List StimRequest) → All (IsLegalThere plan.sources solution.down solution.up) requests → All (IsLegalAsked plan) requests
legally design edges solution plan stands requests h =
    All-weaker (IsLegalThere plan.sources solution.down solution.up) (IsLegalAsked plan)
    (λ asked legal. at_port design edges solution plan stands asked.port asked.request (slice_get plan.sources asked.port) refl legal) requests h

-- the same of the requests of a stimulus, if there is one
pub legally_read : (design : Design) (edges : List Edge) (solution : Solution) (plan : Plan) (downs : List DownPort) (ups : List UpPort)
    (result : Result Stimulus StimFault) → StandsTo design edges solution plan → downs ≡ solution.down → ups ≡ solution.up
    → IfOk result (λ stimulus. All (IsLegalThere plan.sources downs ups) stimulus.requests)
    → IfOk result (λ stimulus. All (IsLegalAsked plan) stimulus.requests)
legally_read design edges solution plan downs ups (Ok stimulus) stands d u h =
    legally design edges solution plan stands stimulus.requests
    (subst (λ x. All (IsLegalThere plan.sources solution.down x) stimulus.requests) u
    (subst (λ x. All (IsLegalThere plan.sources x ups) stimulus.requests) d h))
legally_read design edges solution plan downs ups (Err fault) stands d u h = h
