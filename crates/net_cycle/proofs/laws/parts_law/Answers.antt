use Rattle.std.proofs.Common.{◌≡◌, ◌<◌, ℕ, Some, sym, ap, ◌∙◌, subst, length, slice_get}
use Rattle.tl_edge.specs.declared.plan.PlanPort.{PlanPort}
use Rattle.tl_edge.specs.declared.plan.Plan.{Plan}
use Rattle.tl_edge.specs.Plans.Giver.{Source}
use Rattle.tl_edge.specs.Plans.Taker.{Sink}
use Rattle.tl_edge.specs.SoundPlans.{IsSound}
use Rattle.tl_edge.proofs.Ways.{ends_law}
use Rattle.flow_core.specs.Network.{State, edge_of_port}
use Rattle.flow_choice.specs.declared.offers.Offers.{Offers}
use Rattle.flow_choice.specs.Choosing.{chosen_moves}
use Rattle.flow_choice.specs.Valid.{IsValid}
use Rattle.flow_choice.proofs.Commuting.{map_some}
use Rattle.flow_choice.proofs.Listing.{chosen_apart}
use Rattle.net_cycle.specs.Ends.{AreOfEnds, ArePortsMoves}
use Rattle.net_cycle.specs.Laws.{IsCycleOfParts}
use Rattle.net_cycle.proofs.AtLeaves.{at_leaf}
use Rattle.net_cycle.proofs.AtOnce.{at_once}
use Rattle.net_cycle.proofs.AtPorts.{at_ports}
use Rattle.net_cycle.proofs.Ends.{at_ends}
use Rattle.net_cycle.proofs.laws.parts_law.Goals as goal

source_there : (plan : Plan) (p e : ℕ) → IsSound plan → edge_of_port plan.sources p ≡ Some e → e < length plan.edges
source_there plan p e sound k = let a = map_some (λ (at : PlanPort). at.edge) (slice_get plan.sources p) e k in ends_law.given plan e (Source p) sound (a.0, a.1, a.2)

sink_there : (plan : Plan) (p e : ℕ) → IsSound plan → edge_of_port plan.sinks p ≡ Some e → e < length plan.edges
sink_there plan p e sound k = let a = map_some (λ (at : PlanPort). at.edge) (slice_get plan.sinks p) e k in ends_law.taken plan e (Sink p) sound (a.0, a.1, a.2)

cycle_of : (plan : Plan) (s : State) (offers : Offers) → IsSound plan → IsValid plan s → IsCycleOfParts plan s offers
cycle_of plan s offers sound valid =
    let its : s.plan ≡ plan = valid.shape.plan in
    let own : IsSound s.plan = subst IsSound (sym its) sound in
    let apart = chosen_apart s offers plan valid own in
    record {
      queues = at_once s (chosen_moves s offers) apart;
      ends = subst (λ p. AreOfEnds p s offers) its (at_ends s offers own);
      ports = subst (λ p. ArePortsMoves p s offers) its (at_ports s offers
          (λ p e k. subst (λ n. e < n) (sym (valid.shape.a.each ∙ ap (λ (p : Plan). length p.edges) (sym its))) (source_there s.plan p e own k))
          (λ p e k. subst (λ n. e < n) (sym (valid.shape.d.each ∙ ap (λ (p : Plan). length p.edges) (sym its))) (sink_there s.plan p e own k)));
      leaves = record { leaf = λ l b. at_leaf s offers l b apart };
    }

pub returns : goal.returns
returns c = cycle_of
