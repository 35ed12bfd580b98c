-- A sound plan of buffers and crossbars is built.
use Rattle.std.proofs.Common.{ℕ, zero, suc, ◌≡◌, ◌<◌, ◌≤◌, ◌⊎◌, inl, inr, List, [], ◌∷◌, map, length, false, All, Some, IsTrue, get_or, slice_get, refl, sym, ap, ◌∙◌, subst, arith, eqb}
use Rattle.std.specs.List.{AllByRecursion, IsDistinct}
use Rattle.std.proofs.lemmas.Bool.{ne_eqb}
use Rattle.std.proofs.lemmas.List.{length-map}
use Rattle.std.proofs.lemmas.Option.{slice_get-get_or, unwrap_or-slice_get}
use Rattle.dip_sets.specs.Assignments.{assigned}
use Rattle.tl_params.specs.declared.ops.Template.{Template}
use Rattle.tl_params.specs.declared.ops.Template.TheVariants.{Buffer, Width, Fragmenter, Shrinker, Xbar}
use Rattle.tl_params.specs.Arguments.{is_width}
use Rattle.tl_edge.specs.declared.plan.Leaf.{Leaf}
use Rattle.tl_edge.specs.declared.plan.PlanEdge.{PlanEdge}
use Rattle.tl_edge.specs.declared.plan.Plan.{Plan}
use Rattle.tl_edge.specs.Plans.{In, edge_at, no_edge, ins_of, outs_of, bus_width}
use Rattle.tl_edge.specs.SoundPlans.{IsSound, IsSoundEdge, HasShape, MovesIds, ids_of, moved_end}
use Rattle.tl_edge.proofs.Once.{few_distinct}
use Rattle.tl_edge.proofs.Ways.{ends_law}
use Rattle.flow_core.specs.Leaves.{first_edge}
use Rattle.flow_core.specs.Built.{IsBuiltLeaf}
use Rattle.flow_core.specs.BuiltPlans.{BuiltLaw}

-- ---- numbers at different places

stands_not : (x : ℕ) (xs : List ℕ) → ((k : ℕ) → slice_get xs k ≡ Some x → ⊥) → AllByRecursion (λ y. eqb x y ≡ false) xs
stands_not x [] none = tt
stands_not x (y ∷ ys) none =
    (ne_eqb x y (λ same. none 0 (ap (λ (n : ℕ). Some n) (sym same))), stands_not x ys (λ k is. none (suc k) is))

all_differ : (xs : List ℕ) → ((p q x : ℕ) → slice_get xs p ≡ Some x → slice_get xs q ≡ Some x → p ≡ q) → IsDistinct eqb xs
unfolding IsDistinct
all_differ [] one = tt
all_differ (x ∷ xs) one = (
  stands_not x xs (λ k is. let same : 0 ≡ suc k = one 0 (suc k) x refl is in absurd (omega arith)),
  all_differ xs (λ p q y is too. let same : suc p ≡ suc q = one (suc p) (suc q) y is too in omega arith),
)

of_map : {A B : Type 0} (P : B → Type 0) (f : A → B) (xs : List A) → All P (map f xs) → All (λ x. P (f x)) xs
of_map P f [] all k d below = absurd (omega arith)
of_map P f (x ∷ xs) all zero d below = all zero (f d) (omega arith)
of_map P f (x ∷ xs) all (suc k) d below = of_map P f xs (λ i y less. all (suc i) y (omega (arith, less))) k d (omega (arith, below))

-- ---- the edges of a leaf

input_within : (plan : Plan) → IsSound plan → (l : ℕ) (leaf : Leaf) → slice_get plan.leaves l ≡ Some leaf → (p e : ℕ) → slice_get leaf.ins p ≡ Some e
    → e < length plan.edges
input_within plan sound l leaf is p e at = ends_law.taken plan e (In l p) sound (leaf, is, at)

one_input : (plan : Plan) → IsSound plan → (l : ℕ) (leaf : Leaf) → slice_get plan.leaves l ≡ Some leaf → (p q e : ℕ) → slice_get leaf.ins p ≡ Some e
    → slice_get leaf.ins q ≡ Some e → p ≡ q
one_input plan sound l leaf is p q e at too =
    let taker = ends_law.taker plan e sound (input_within plan sound l leaf is p e at) in
    let same : In l p ≡ In l q = taker.2 (In l p) (leaf, is, at) ∙ sym (taker.2 (In l q) (leaf, is, too)) in
    cc

few_inputs : (plan : Plan) → IsSound plan → (l : ℕ) (leaf : Leaf) → slice_get plan.leaves l ≡ Some leaf → length (ins_of plan leaf) ≤ 1024
few_inputs plan sound l leaf is =
    let few : length leaf.ins ≤ length plan.edges =
    few_distinct leaf.ins (length plan.edges) (all_differ leaf.ins (one_input plan sound l leaf is))
    (λ k e below. input_within plan sound l leaf is k (get_or leaf.ins k e) (slice_get-get_or leaf.ins k e below)) in
    omega (arith, few, sound.few_edges, length-map leaf.ins (edge_at plan))

sound_at : (plan : Plan) → IsSound plan → (e : ℕ) → e < length plan.edges → IsSoundEdge (edge_at plan e)
sound_at plan sound e within = subst IsSoundEdge (sym (unwrap_or-slice_get plan.edges e no_edge)) (sound.edges e no_edge within)

first_width : (plan : Plan) → IsSound plan → (ins : List ℕ) → 1 ≤ length ins → ((p e : ℕ) → slice_get ins p ≡ Some e → e < length plan.edges)
    → IsTrue (is_width (bus_width (first_edge (map (edge_at plan) ins))))
first_width plan sound [] some within = absurd (omega arith)
first_width plan sound (e ∷ es) some within = (sound_at plan sound e (within 0 e refl)).width

-- ---- a leaf

leaf_built : (plan : Plan) → IsSound plan → (l : ℕ) (leaf : Leaf) → slice_get plan.leaves l ≡ Some leaf → (t : Template) → (t ≡ Buffer) ⊎ (t ≡ Xbar)
    → HasShape t leaf.ins leaf.outs → MovesIds t leaf.args (ins_of plan leaf) (outs_of plan leaf) → IsBuiltLeaf t (ins_of plan leaf) (outs_of plan leaf)
leaf_built plan sound l leaf is Buffer kind shape moves = record { few = few_inputs plan sound l leaf is; ids = keeps }
  where
    keeps : All (λ (below : PlanEdge). All (λ (above : PlanEdge). above.ids ≤ below.ids) (ins_of plan leaf)) (outs_of plan leaf)
    keeps k d within i above less =
        let out = of_map (λ out. All (λ ids. out ≡ ids) (ids_of (ins_of plan leaf))) (λ (edge : PlanEdge). edge.ids) (outs_of plan leaf) moves k d within in
        let same = of_map (λ ids. (get_or (outs_of plan leaf) k d).ids ≡ ids) (λ (edge : PlanEdge). edge.ids) (ins_of plan leaf) out i above less in
        omega (arith, same)
leaf_built plan sound l leaf is Xbar kind shape moves =
    record {
      few = few_inputs plan sound l leaf is;
      width = first_width plan sound leaf.ins shape.0 (input_within plan sound l leaf is);
      ids = λ k d within. omega (arith, of_map (λ out. out ≡ moved_end (ids_of (ins_of plan leaf)) (assigned (ids_of (ins_of plan leaf)))) (λ (edge : PlanEdge). edge.ids) (outs_of plan leaf) moves k d within);
    }
leaf_built plan sound l leaf is Width kind shape moves = elim kind [ inl e ↦ absurd cc | inr e ↦ absurd cc ]
leaf_built plan sound l leaf is Fragmenter kind shape moves = elim kind [ inl e ↦ absurd cc | inr e ↦ absurd cc ]
leaf_built plan sound l leaf is Shrinker kind shape moves = elim kind [ inl e ↦ absurd cc | inr e ↦ absurd cc ]

leaf_simple : (t : Template) (ins outs : List PlanEdge) → IsBuiltLeaf t ins outs → (t ≡ Buffer) ⊎ (t ≡ Xbar)
leaf_simple Buffer ins outs h = inl refl
leaf_simple Xbar ins outs h = inr refl
leaf_simple Width ins outs h = absurd h
leaf_simple Fragmenter ins outs h = absurd h
leaf_simple Shrinker ins outs h = absurd h

-- ---- a plan

pub built_law : BuiltLaw
built_law = record {
  enough = λ plan sound simple.
      record {
        few_ids = λ k edge below. (sound.edges k edge below).few_ids;
        leaves = λ k leaf below.
            let at = get_or plan.leaves k leaf in
            leaf_built plan sound k at (slice_get-get_or plan.leaves k leaf below) at.template (simple k leaf below) (sound.shaped k leaf below) (sound.ids k leaf below);
      };
  needed = λ plan built k leaf below.
      let at = get_or plan.leaves k leaf in
      leaf_simple at.template (ins_of plan at) (outs_of plan at) (built.leaves k leaf below);
}
