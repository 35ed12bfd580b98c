-- There is code for each leaf of the tests' plan.
use Rattle.std.proofs.Common.{ℕ, ◌≡◌, ◌≤◌, List, [], ◌∷◌, All, refl, sym, subst, arith}
use Rattle.std.specs.Prelude.{slice_get, unwrap_or}
use Rattle.std.proofs.lemmas.List.Elements.{All-nil, All-cons}
use Rattle.dip_sets.specs.Assignments.{rounded, assigned}
use Rattle.tl_params.specs.declared.ports.Slave.{Slave}
use Rattle.tl_edge.specs.declared.plan.Leaf.{Leaf}
use Rattle.tl_edge.specs.declared.plan.PlanEdge.{PlanEdge}
use Rattle.tl_edge.specs.declared.plan.Plan.{Plan}
use Rattle.tl_edge.specs.Plans.{ins_of, outs_of, no_edge}
use Rattle.tl_edge.specs.SoundPlans.{moved_end}
use Rattle.flow_core.specs.Built.{IsBuilt, IsBuiltLeaf, KeepsIds, MovesEachId}
use Rattle.flow_tests.specs.Rows.{edge_with, edges_with, the_buffer, the_crossbar, both_leaves}

few : (low high : List Slave) → All (λ (edge : PlanEdge). edge.ids ≤ 1024) (edges_with low high)
few low high = grind (arith, All-nil, All-cons)

buffer_built : KeepsIds (edge_with 2 [] ∷ []) (edge_with 2 [] ∷ [])
buffer_built = record {
  few = omega arith;
  ids =
      All-cons (λ (below : PlanEdge). All (λ (above : PlanEdge). above.ids ≤ below.ids) (edge_with 2 [] ∷ [])) (edge_with 2 []) []
      (All-cons (λ (above : PlanEdge). above.ids ≤ 2) (edge_with 2 []) [] (omega arith) (All-nil (λ (above : PlanEdge). above.ids ≤ 2)))
      (All-nil (λ (below : PlanEdge). All (λ (above : PlanEdge). above.ids ≤ below.ids) (edge_with 2 [] ∷ [])));
}

moved_to_four : moved_end (2 ∷ 2 ∷ []) (assigned (2 ∷ 2 ∷ [])) ≡ 4
unfolding rounded
moved_to_four = refl

crossbar_built : (low high : List Slave) → MovesEachId (edge_with 2 [] ∷ edge_with 2 [] ∷ []) (edge_with 4 low ∷ edge_with 4 high ∷ [])
crossbar_built low high =
    let four : moved_end (2 ∷ 2 ∷ []) (assigned (2 ∷ 2 ∷ [])) ≤ 4 = omega (arith, moved_to_four) in
    record {
      few = omega arith;
      width = refl;
      ids =
          All-cons (λ (below : PlanEdge). moved_end (2 ∷ 2 ∷ []) (assigned (2 ∷ 2 ∷ [])) ≤ below.ids) (edge_with 4 low) (edge_with 4 high ∷ []) four
          (All-cons (λ (below : PlanEdge). moved_end (2 ∷ 2 ∷ []) (assigned (2 ∷ 2 ∷ [])) ≤ below.ids) (edge_with 4 high) [] four
          (All-nil (λ (below : PlanEdge). moved_end (2 ∷ 2 ∷ []) (assigned (2 ∷ 2 ∷ [])) ≤ below.ids)));
    }

-- the edge with a number of a list of edges
numbered : List PlanEdge → ℕ → PlanEdge
numbered edges n = unwrap_or (slice_get edges n) no_edge

pub made_built : (plan : Plan) (low high : List Slave) → plan.edges ≡ edges_with low high → plan.leaves ≡ both_leaves → IsBuilt plan
unfolding numbered
made_built plan low high e f = record {
  few_ids = subst (λ edges. All (λ (edge : PlanEdge). edge.ids ≤ 1024) edges) (sym e) (few low high);
  leaves =
      subst (λ leaves. All (λ (leaf : Leaf). IsBuiltLeaf leaf.template (ins_of plan leaf) (outs_of plan leaf)) leaves) (sym f)
      (All-cons (λ (leaf : Leaf). IsBuiltLeaf leaf.template (ins_of plan leaf) (outs_of plan leaf)) the_buffer (the_crossbar ∷ [])
      (subst (λ edges. KeepsIds (numbered edges 1 ∷ []) (numbered edges 2 ∷ [])) (sym e) buffer_built)
      (All-cons (λ (leaf : Leaf). IsBuiltLeaf leaf.template (ins_of plan leaf) (outs_of plan leaf)) the_crossbar []
      (subst (λ edges. MovesEachId (numbered edges 3 ∷ numbered edges 4 ∷ []) (numbered edges 5 ∷ numbered edges 6 ∷ [])) (sym e) (crossbar_built low high))
      (All-nil (λ (leaf : Leaf). IsBuiltLeaf leaf.template (ins_of plan leaf) (outs_of plan leaf)))));
}
