-- The sizes and ids of waiting beats in a network of buffers and crossbars.
use Rattle.std.proofs.Common.{ℕ, zero, suc, ◌≡◌, ◌+◌, ◌<◌, ◌≤◌, inl, inr, List, [], ◌∷◌, ◌++◌, map, length, drop, replicate, All, Option, Some, None, IsTrue, refl, sym, ap, ◌∙◌, subst, arith}
use Rattle.std.proofs.Math.ListN.{set}
use Rattle.std.specs.Prelude.{slice_get, unwrap_or}
use Rattle.std.specs.Option.{option_map}
use Rattle.std.proofs.lemmas.Bool.{cases_eq, cases_lt}
use Rattle.std.proofs.lemmas.List.{get_or-set_same, get_or-set_other, set_past}
use Rattle.std.proofs.lemmas.List.Elements.{All-nil, All-cons, All-head, All-map, All-append, All-drop, All-get_or}
use Rattle.std.proofs.lemmas.Option.{slice_get-map, slice_get_within, get_or_from_slice_get, same_Some, none-some}
use Rattle.dip_sets.specs.declared.ids.IdRange.{IdRange}
use Rattle.dip_sets.specs.Assignments.{assigned}
use Rattle.tl_params.specs.declared.ops.Template.{Template}
use Rattle.tl_params.specs.declared.ops.Template.TheVariants.{Buffer, Xbar}
use Rattle.tl_params.specs.Arguments.{is_width}
use Rattle.tl_edge.specs.declared.plan.Leaf.{Leaf}
use Rattle.tl_edge.specs.declared.plan.PlanEdge.{PlanEdge}
use Rattle.tl_edge.specs.declared.plan.Plan.{Plan}
use Rattle.tl_edge.specs.Plans.{edge_at, no_edge, ins_of, outs_of}
use Rattle.tl_edge.specs.SoundPlans.{ids_of, moved_end}
use Rattle.flow_core.specs.declared.crossing.Fixed.{Fixed}
use Rattle.flow_core.specs.Queues.{queue, head_in, taken, put_last}
use Rattle.flow_core.specs.Built.{IsBuilt, IsBuiltLeaf, MovesEachId, AreAll, fixed_of}

-- ---- lists

pub all_at : {A : Type 0} (P : A → Type 0) (xs : List A) (i : ℕ) (x : A) → All P xs → slice_get xs i ≡ Some x → P x
all_at P xs i x h e = subst P (get_or_from_slice_get xs i x x e) (All-get_or P xs i x (slice_get_within xs i x e) h)

pub mapped_at : {A B : Type 0} (f : A → B) (xs : List A) (i : ℕ) (x : A) → slice_get xs i ≡ Some x → slice_get (map f xs) i ≡ Some (f x)
mapped_at f xs i x e = slice_get-map f xs i ∙ ap (option_map f) e

-- ---- ids

pub few_ids : (plan : Plan) → IsBuilt plan → (edge : ℕ) → (edge_at plan edge).ids ≤ 1024
few_ids plan built edge = at (slice_get plan.edges edge) refl
  where
    at : (o : Option PlanEdge) → slice_get plan.edges edge ≡ o → (unwrap_or o no_edge).ids ≤ 1024
    at None e = omega arith
    at (Some on) e = all_at (λ (edge : PlanEdge). edge.ids ≤ 1024) plan.edges edge on built.few_ids e

pub few_above : (plan : Plan) → IsBuilt plan → (leaf : Leaf) → All (λ ids. ids ≤ 1024) (ids_of (ins_of plan leaf))
few_above plan built leaf =
    All-map (λ ids. ids ≤ 1024) (λ (edge : PlanEdge). edge.ids) (ins_of plan leaf)
    (All-map (λ (edge : PlanEdge). edge.ids ≤ 1024) (edge_at plan) leaf.ins (each leaf.ins))
  where
    each : (ns : List ℕ) → All (λ n. (edge_at plan n).ids ≤ 1024) ns
    each [] = All-nil (λ n. (edge_at plan n).ids ≤ 1024)
    each (n ∷ ns) = All-cons (λ n. (edge_at plan n).ids ≤ 1024) n ns (few_ids plan built n) (each ns)

pub covered : (counts : List ℕ) (ranges : List IdRange) (i n : ℕ) (range : IdRange) → slice_get counts i ≡ Some n → slice_get ranges i ≡ Some range
    → n + range.start ≤ moved_end counts ranges
covered [] ranges i n range e f = absurd (none-some _ e)
covered (c ∷ cs) [] i n range e f = absurd (none-some _ f)
covered (c ∷ cs) (r ∷ rs) zero n range e f =
    let a : c ≡ n = same_Some _ _ e in
    let b : r.start ≡ range.start = ap (λ (r : IdRange). r.start) (same_Some _ _ f) in
    omega arith
covered (c ∷ cs) (r ∷ rs) (suc i) n range e f = omega (arith, covered cs rs i n range e f)

pub built_leaf : (plan : Plan) → IsBuilt plan → (l : ℕ) (leaf : Leaf) → slice_get plan.leaves l ≡ Some leaf
    → IsBuiltLeaf leaf.template (ins_of plan leaf) (outs_of plan leaf)
built_leaf plan built l leaf e =
    all_at (λ (leaf : Leaf). IsBuiltLeaf leaf.template (ins_of plan leaf) (outs_of plan leaf)) plan.leaves l leaf built.leaves e

few_of : (t : Template) (ins outs : List PlanEdge) → IsBuiltLeaf t ins outs → length ins ≤ 1024
few_of Buffer ins outs h = h.few
few_of Xbar ins outs h = h.few
few_of _ ins outs h = absurd h

pub built_bar : (plan : Plan) → IsBuilt plan → (l : ℕ) (leaf : Leaf) → slice_get plan.leaves l ≡ Some leaf → leaf.template ≡ Xbar
    → MovesEachId (ins_of plan leaf) (outs_of plan leaf)
built_bar plan built l leaf e x =
    subst (λ t. IsBuiltLeaf t (ins_of plan leaf) (outs_of plan leaf)) x (built_leaf plan built l leaf e)

-- a moved id is one of the edge below
pub moved_below : (plan : Plan) → IsBuilt plan → (l : ℕ) (leaf : Leaf) → slice_get plan.leaves l ≡ Some leaf → leaf.template ≡ Xbar
    → (i o from to id : ℕ) (range : IdRange) → slice_get leaf.ins i ≡ Some from → slice_get leaf.outs o ≡ Some to
    → slice_get (assigned (ids_of (ins_of plan leaf))) i ≡ Some range → id < (edge_at plan from).ids
    → id + range.start < (edge_at plan to).ids
moved_below plan built l leaf e x i o from to id range f t r h =
    let bar = built_bar plan built l leaf e x in
    let n : slice_get (ids_of (ins_of plan leaf)) i ≡ Some (edge_at plan from).ids =
    mapped_at (λ (edge : PlanEdge). edge.ids) (ins_of plan leaf) i (edge_at plan from) (mapped_at (edge_at plan) leaf.ins i from f) in
    let below : moved_end (ids_of (ins_of plan leaf)) (assigned (ids_of (ins_of plan leaf))) ≤ (edge_at plan to).ids =
    all_at (λ (below : PlanEdge). moved_end (ids_of (ins_of plan leaf)) (assigned (ids_of (ins_of plan leaf))) ≤ below.ids) (outs_of plan leaf) o
    (edge_at plan to) bar.ids (mapped_at (edge_at plan) leaf.outs o to t) in
    omega (arith, covered (ids_of (ins_of plan leaf)) (assigned (ids_of (ins_of plan leaf))) i (edge_at plan from).ids range n r)

-- ---- queues

pub queued : {B : Type 0} (P : ℕ → B → Type 0) (qs : List (List B)) (e : ℕ) (x : B) → AreAll P qs → head_in (queue qs e) ≡ Some x → P e x
queued P qs e x h f = at (queue qs e) (h.each e) f
  where
    at : (xs : List _) → All (P e) xs → head_in xs ≡ Some x → P e x
    at [] h f = absurd (none-some _ f)
    at (y ∷ ys) h f = subst (P e) (same_Some _ _ f) (All-head (P e) y ys h)

nothing_queued : (B : Type 0) (n e : ℕ) → length (queue {B = B} (replicate n []) e) ≡ 0
nothing_queued B zero e = refl
nothing_queued B (suc n) zero = refl
nothing_queued B (suc n) (suc e) = nothing_queued B n e

module _ {B : Type 0} (P : ℕ → B → Type 0) where
  pub none_queued : (n : ℕ) → AreAll P (replicate n [])
  none_queued n = record { each = λ e i d h. absurd (omega (arith, nothing_queued B n e)) }

  replaced : (qs : List (List B)) (f e : ℕ) (new : List B) → All (P f) new → AreAll P qs → All (P e) (queue (set qs f new) e)
  replaced qs f e new h all =
      elim (cases_lt f (length qs)) [
        | inl i ↦ elim (cases_eq e f) [
          | inl s ↦ rw s (rw (get_or-set_same qs f new [] i) h)
          | inr n ↦ rw (get_or-set_other qs f e new [] n) (all.each e)
        ]
        | inr o ↦ rw (set_past qs f new o) (all.each e)
      ]

  pub taken_queued : (t : Option ℕ) (qs : List (List B)) → AreAll P qs → AreAll P (taken t qs)
  taken_queued None qs all = all
  taken_queued (Some f) qs all = record { each = λ e. replaced qs f e (drop 1 (queue qs f)) (All-drop (P f) 1 (queue qs f) (all.each f)) all }

  pub put_queued : (f : ℕ) (x : B) (qs : List (List B)) → P f x → AreAll P qs → AreAll P (put_last (Some (f, x)) qs)
  put_queued f x qs h all = record {
    each = λ e. replaced qs f e (queue qs f ++ x ∷ []) (All-append (P f) (queue qs f) (x ∷ []) (all.each f) (All-cons (P f) x [] h (All-nil (P f)))) all;
  }

-- ---- what the code has kept of a leaf

module _ (plan : Plan) (built : IsBuilt plan) (kept : List Fixed) (is : kept ≡ map (fixed_of plan) plan.leaves)
    (l : ℕ) (leaf : Leaf) (own : Fixed) (here : slice_get plan.leaves l ≡ Some leaf) (there : slice_get kept l ≡ Some own) where
  pub kept_is : own ≡ fixed_of plan leaf
  kept_is = same_Some _ _ (sym there ∙ ap (λ xs. slice_get xs l) is ∙ mapped_at (fixed_of plan) plan.leaves l leaf here)

  pub kept_width : leaf.template ≡ Xbar → IsTrue (is_width own.width)
  kept_width x = subst (λ (own : Fixed). IsTrue (is_width own.width)) (sym kept_is) (built_bar plan built l leaf here x).width

  pub kept_room : (i o from to id : ℕ) (range : IdRange) → leaf.template ≡ Xbar → slice_get own.ranges i ≡ Some range
      → slice_get leaf.ins i ≡ Some from → slice_get leaf.outs o ≡ Some to → id < (edge_at plan from).ids → id + range.start < 4294967296
  kept_room i o from to id range x r f t h =
      let r' : slice_get (assigned (ids_of (ins_of plan leaf))) i ≡ Some range = ap (λ (own : Fixed). slice_get own.ranges i) (sym kept_is) ∙ r in
      omega (arith, moved_below plan built l leaf here x i o from to id range f t r' h, few_ids plan built to)
