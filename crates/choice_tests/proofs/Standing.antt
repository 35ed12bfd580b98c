-- There is code for each leaf of the tests' plan, and its ports, leaves, inputs and outputs have numbers.
use Rattle.std.proofs.Common.{ℕ, ◌≡◌, ◌≤◌, List, [], ◌∷◌, All, length, refl, sym, subst, arith}
use Rattle.std.specs.Prelude.{slice_get, unwrap_or}
use Rattle.std.proofs.lemmas.List.Elements.{All-nil, All-cons}
use Rattle.dip_sets.specs.Assignments.{rounded, assigned}
use Rattle.tl_params.specs.declared.ports.Slave.{Slave}
use Rattle.tl_edge.specs.declared.plan.Leaf.{Leaf}
use Rattle.tl_edge.specs.declared.plan.PlanEdge.{PlanEdge}
use Rattle.tl_edge.specs.declared.plan.Plan.{Plan}
use Rattle.tl_edge.specs.Plans.{ins_of, outs_of, no_edge}
use Rattle.tl_edge.specs.SoundPlans.{moved_end}
use Rattle.flow_core.specs.Built.{IsBuilt, IsBuiltLeaf, MovesEachId}
use Rattle.flow_choice.specs.Numbered.{IsNumbered, HaveNumbers}
use Rattle.choice_tests.specs.Nets.{net_edge, net_edges, crossbar_between, both_crossbars}

few : (ram low high : List Slave) → All (λ (edge : PlanEdge). edge.ids ≤ 1024) (net_edges ram low high)
few ram low high = grind (arith, All-nil, All-cons)

two_moved : moved_end (2 ∷ 2 ∷ []) (assigned (2 ∷ 2 ∷ [])) ≡ 4
unfolding rounded
two_moved = refl

three_moved : moved_end (2 ∷ 2 ∷ 2 ∷ []) (assigned (2 ∷ 2 ∷ 2 ∷ [])) ≡ 6
unfolding rounded
three_moved = refl

from_two : (ram : List Slave) → MovesEachId (net_edge 2 [] ∷ net_edge 2 [] ∷ []) (net_edge 4 ram ∷ [])
from_two ram =
    let ends : moved_end (2 ∷ 2 ∷ []) (assigned (2 ∷ 2 ∷ [])) ≤ 4 = omega (arith, two_moved) in
    record {
      few = omega arith;
      width = refl;
      ids =
          All-cons (λ (below : PlanEdge). moved_end (2 ∷ 2 ∷ []) (assigned (2 ∷ 2 ∷ [])) ≤ below.ids) (net_edge 4 ram) [] ends
          (All-nil (λ (below : PlanEdge). moved_end (2 ∷ 2 ∷ []) (assigned (2 ∷ 2 ∷ [])) ≤ below.ids));
    }

from_three : (low high : List Slave) → MovesEachId (net_edge 2 [] ∷ net_edge 2 [] ∷ net_edge 2 [] ∷ []) (net_edge 8 low ∷ net_edge 8 high ∷ [])
from_three low high =
    let ends : moved_end (2 ∷ 2 ∷ 2 ∷ []) (assigned (2 ∷ 2 ∷ 2 ∷ [])) ≤ 8 = omega (arith, three_moved) in
    record {
      few = omega arith;
      width = refl;
      ids =
          All-cons (λ (below : PlanEdge). moved_end (2 ∷ 2 ∷ 2 ∷ []) (assigned (2 ∷ 2 ∷ 2 ∷ [])) ≤ below.ids) (net_edge 8 low) (net_edge 8 high ∷ []) ends
          (All-cons (λ (below : PlanEdge). moved_end (2 ∷ 2 ∷ 2 ∷ []) (assigned (2 ∷ 2 ∷ 2 ∷ [])) ≤ below.ids) (net_edge 8 high) [] ends
          (All-nil (λ (below : PlanEdge). moved_end (2 ∷ 2 ∷ 2 ∷ []) (assigned (2 ∷ 2 ∷ 2 ∷ [])) ≤ below.ids)));
    }

-- the edge with a number of a list of edges
numbered : List PlanEdge → ℕ → PlanEdge
numbered edges n = unwrap_or (slice_get edges n) no_edge

pub made_built : (plan : Plan) (ram low high : List Slave) → plan.edges ≡ net_edges ram low high → plan.leaves ≡ both_crossbars → IsBuilt plan
unfolding numbered
made_built plan ram low high e f = record {
  few_ids = subst (λ edges. All (λ (edge : PlanEdge). edge.ids ≤ 1024) edges) (sym e) (few ram low high);
  leaves =
      subst (λ leaves. All (λ (leaf : Leaf). IsBuiltLeaf leaf.template (ins_of plan leaf) (outs_of plan leaf)) leaves) (sym f)
      (All-cons (λ (leaf : Leaf). IsBuiltLeaf leaf.template (ins_of plan leaf) (outs_of plan leaf))
      (crossbar_between (1 ∷ 2 ∷ []) (3 ∷ [])) (crossbar_between (4 ∷ 5 ∷ 6 ∷ []) (7 ∷ 8 ∷ []) ∷ [])
      (subst (λ edges. MovesEachId (numbered edges 1 ∷ numbered edges 2 ∷ []) (numbered edges 3 ∷ [])) (sym e) (from_two ram))
      (All-cons (λ (leaf : Leaf). IsBuiltLeaf leaf.template (ins_of plan leaf) (outs_of plan leaf))
      (crossbar_between (4 ∷ 5 ∷ 6 ∷ []) (7 ∷ 8 ∷ [])) []
      (subst (λ edges. MovesEachId (numbered edges 4 ∷ numbered edges 5 ∷ numbered edges 6 ∷ []) (numbered edges 7 ∷ numbered edges 8 ∷ [])) (sym e)
      (from_three low high))
      (All-nil (λ (leaf : Leaf). IsBuiltLeaf leaf.template (ins_of plan leaf) (outs_of plan leaf)))));
}

few_in : All (λ (leaf : Leaf). HaveNumbers (length leaf.ins)) both_crossbars
few_in = grind (arith, All-nil, All-cons)

few_out : All (λ (leaf : Leaf). HaveNumbers (length leaf.outs)) both_crossbars
few_out = grind (arith, All-nil, All-cons)

pub made_numbered : (plan : Plan) → length plan.sources ≡ 6 → length plan.sinks ≡ 4 → plan.leaves ≡ both_crossbars → IsNumbered plan
made_numbered plan s t f = record {
  sources = omega (arith, s);
  sinks = omega (arith, t);
  leaves = subst (λ (leaves : List Leaf). HaveNumbers (length leaves)) (sym f) (omega arith);
  inputs = subst (λ leaves. All (λ (leaf : Leaf). HaveNumbers (length leaf.ins)) leaves) (sym f) few_in;
  outputs = subst (λ leaves. All (λ (leaf : Leaf). HaveNumbers (length leaf.outs)) leaves) (sym f) few_out;
}
