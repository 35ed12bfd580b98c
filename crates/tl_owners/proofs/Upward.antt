-- What holds of the slaves and widths at the sinks holds on all edges of a plan.
use Rattle.std.proofs.Common.{◌≡◌, ℕ, ◌<◌, ◌≤◌, true, List, [], ◌∷◌, ◌++◌, length, map, IsTrue, Option, Some, refl, sym, subst, arith, ◌⊎◌, inl, inr}
use Rattle.std.specs.Prelude.{slice_get, All, AllPairs, Contains}
use Rattle.std.specs.List.{flat_map}
use Rattle.std.proofs.lemmas.List.Elements.{All-nil, All-cons, All-head, All-tail, All-append, All-contains, Contains-append_left, Contains-append_right}
use Rattle.dip_sets.specs.SizeRanges.{SizeRange}
use Rattle.tl_params.specs.declared.ops.Template.{Template}
use Rattle.tl_params.specs.declared.ops.Template.TheVariants.{Buffer, Width, Fragmenter, Shrinker, Xbar}
use Rattle.tl_params.specs.declared.ports.Slave.{Slave}
use Rattle.tl_params.specs.Arguments.{is_width}
use Rattle.tl_params.specs.Carried.{all_zip, slave_fits, slaves_fit}
use Rattle.tl_edge.specs.declared.plan.Leaf.{Leaf}
use Rattle.tl_edge.specs.declared.plan.PlanEdge.{PlanEdge}
use Rattle.tl_edge.specs.declared.plan.PlanPort.{PlanPort}
use Rattle.tl_edge.specs.declared.plan.Plan.{Plan}
use Rattle.tl_edge.specs.Plans.{edge_at, ins_of, outs_of, joined_slaves, bus_width, port_edges, given_edges, taken_edges, times, LeadsTo, NoneReturns}
use Rattle.tl_edge.specs.SoundPlans.{HasShape, pieces_of, Shows, WidthsAgree}
use Rattle.dip_lists.proofs.Tests.{both}
use Rattle.dip_lists.proofs.Pairs.{nowhere, within_cases, behind, rest_pairs}
use Rattle.tl_edge.proofs.Ways.{follower_within, edge_by_edge}
use Rattle.tl_owners.proofs.SoundLeaves.{IsSoundLeaf}
use Rattle.tl_owners.proofs.Members.{In, in_contains, FromItem, AtPort, times_in, in_joined, in_some, in_port, mapped, contains_mapped, item_has}

-- ---- an item of a list and one of a list behind it

pub across : {X : Type 0} (R : X → X → Type 0) (xs ys : List X) (x y : X) → AllPairs R (xs ++ ys) → Contains xs x → Contains ys y → R x y
across R [] ys x y h in_xs in_ys = absurd (nowhere x in_xs)
across R (a ∷ xs) ys x y h in_xs in_ys = elim (within_cases a x xs in_xs) [
  | inl e ↦ subst (λ b. R b y) e (All-contains (R a) (xs ++ ys) y (behind R a (xs ++ ys) h) (Contains-append_right xs ys y in_ys))
  | inr later ↦ across R xs ys x y (rest_pairs R a (xs ++ ys) h) later in_ys
]

-- ---- one leaf

shown : (P : Slave → Type 0) (keeps : (pieces : Option SizeRange) (s t : Slave) → slave_fits pieces s t ≡ true → P t → P s) (pieces : Option SizeRange) (ss ts : List Slave)
    → slaves_fit pieces ss ts ≡ true → All P ts → All P ss
shown P keeps pieces [] ts h all = All-nil P
shown P keeps pieces (s ∷ ss) [] h all = absurd cc
shown P keeps pieces (s ∷ ss) (t ∷ ts) h all =
    let b = both (slave_fits pieces s t) (all_zip (slave_fits pieces) ss ts) h in
    All-cons P s ss (keeps pieces s t b.0 (All-head P t ts all)) (shown P keeps pieces ss ts b.1 (All-tail P t ts all))

all_joined : (P : Slave → Type 0) (plan : Plan) (outs : List ℕ) → ((y : ℕ) → In y outs → All P (edge_at plan y).slaves) → All P (joined_slaves (map (edge_at plan) outs))
all_joined P plan [] h = All-nil P
all_joined P plan (y ∷ outs) h =
    All-append P (edge_at plan y).slaves (joined_slaves (map (edge_at plan) outs)) (h y (inl refl)) (all_joined P plan outs (λ z i. h z (inr i)))

has_outs : (template : Template) (ins outs : List ℕ) → HasShape template ins outs → 1 ≤ length outs
has_outs Buffer ins outs h = let l = h.1 in omega arith
has_outs Width ins outs h = let l = h.1 in omega arith
has_outs Fragmenter ins outs h = let l = h.1 in omega arith
has_outs Shrinker ins outs h = let l = h.1 in omega arith
has_outs Xbar ins outs h = h.1

first_of : (xs : List ℕ) → 1 ≤ length xs → (x : ℕ) × In x xs
first_of [] h = absurd (omega arith)
first_of (x ∷ xs) h = (x, inl refl)

module _ (ins outs : List PlanEdge) (a b : PlanEdge) (at_in : Contains ins a) (at_out : Contains outs b) (wide : IsTrue (is_width (bus_width b))) where
  by_pair : AllPairs (λ edge other. bus_width edge ≡ bus_width other) (ins ++ outs) → IsTrue (is_width (bus_width a))
  by_pair h = let e = across (λ edge other. bus_width edge ≡ bus_width other) ins outs a b h at_in at_out in subst (λ w. IsTrue (is_width w)) (sym e) wide

  in_width : (template : Template) → WidthsAgree template (ins ++ outs) → IsTrue (is_width (bus_width a))
  in_width Buffer h = by_pair h
  in_width Width h = All-contains (λ edge. IsTrue (is_width (bus_width edge))) (ins ++ outs) a h (Contains-append_left ins outs a at_in)
  in_width Fragmenter h = by_pair h
  in_width Shrinker h = by_pair h
  in_width Xbar h = by_pair h

-- ---- all edges

module _ (plan : Plan) (acyclic : NoneReturns plan) (given : All (λ edge. edge < length plan.edges) (given_edges plan))
    (taken_once : (edge : ℕ) → edge < length plan.edges → times edge (taken_edges plan) ≡ 1) (leaves : All (IsSoundLeaf plan) plan.leaves) where
  follows : (x y place : ℕ) (leaf : Leaf) → slice_get plan.leaves place ≡ Some leaf → In x leaf.ins → In y leaf.outs → LeadsTo plan x y
  follows x y place leaf is i o = record { leaf = place; through = leaf; is = is; taken = in_contains leaf.ins x i; given = in_contains leaf.outs y o }

  taken_by : (x : ℕ) → x < length plan.edges → FromItem (λ (leaf : Leaf). leaf.ins) plan.leaves x ⊎ AtPort plan.sinks x
  taken_by x l =
      let t : 1 ≤ times x (taken_edges plan) = let e = taken_once x l in omega arith in
      elim (in_joined x (flat_map (λ (leaf : Leaf). leaf.ins) plan.leaves) (port_edges plan.sinks) (times_in x (taken_edges plan) t)) [
        | inl i ↦ inl (in_some (λ (leaf : Leaf). leaf.ins) plan.leaves x i)
        | inr i ↦ inr (in_port plan.sinks x i)
      ]

  pub slaves_upward : (P : Slave → Type 0) (keeps : (pieces : Option SizeRange) (s t : Slave) → slave_fits pieces s t ≡ true → P t → P s)
      → All (λ (port : PlanPort). All P (edge_at plan port.edge).slaves) plan.sinks → (x : ℕ) → x < length plan.edges → All P (edge_at plan x).slaves
  slaves_upward P keeps sinks = edge_by_edge plan (λ x. x < length plan.edges → All P (edge_at plan x).slaves) acyclic given (λ x below l. elim (taken_by x l) [
    | inl f ↦
        let s = item_has (IsSoundLeaf plan) plan.leaves f.place f.item leaves f.is in
        let h = mapped (edge_at plan) (Shows (pieces_of f.item.template f.item.args) (outs_of plan f.item)) f.item.ins x s.carries.slaves f.has in
        shown P keeps (pieces_of f.item.template f.item.args) (edge_at plan x).slaves (joined_slaves (outs_of plan f.item)) h
        (all_joined P plan f.item.outs (λ y o. let w = follows x y f.place f.item f.is f.has o in below y w (follower_within plan x y given w)))
    | inr p ↦ subst (λ n. All P (edge_at plan n).slaves) p.edge (item_has (λ (port : PlanPort). All P (edge_at plan port.edge).slaves) plan.sinks p.place p.port sinks p.is)
  ])

  pub widths_upward : All (λ (port : PlanPort). IsTrue (is_width (bus_width (edge_at plan port.edge)))) plan.sinks → (x : ℕ) → x < length plan.edges → IsTrue (is_width (bus_width (edge_at plan x)))
  widths_upward sinks = edge_by_edge plan (λ x. x < length plan.edges → IsTrue (is_width (bus_width (edge_at plan x)))) acyclic given (λ x below l. elim (taken_by x l) [
    | inl f ↦
        let s = item_has (IsSoundLeaf plan) plan.leaves f.place f.item leaves f.is in
        let o = first_of f.item.outs (has_outs f.item.template f.item.ins f.item.outs s.shape) in
        let w = follows x o.0 f.place f.item f.is f.has o.1 in
        in_width (ins_of plan f.item) (outs_of plan f.item) (edge_at plan x) (edge_at plan o.0) (contains_mapped (edge_at plan) f.item.ins x f.has) (contains_mapped (edge_at plan) f.item.outs o.0 o.1)
        (below o.0 w (follower_within plan x o.0 given w)) f.item.template s.carries.widths
    | inr p ↦ subst (λ n. IsTrue (is_width (bus_width (edge_at plan n)))) p.edge (item_has (λ (port : PlanPort). IsTrue (is_width (bus_width (edge_at plan port.edge)))) plan.sinks p.place p.port sinks p.is)
  ])
