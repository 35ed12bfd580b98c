-- Both passes take the edges of a design without a cycle in order, and each of them once.
use Rattle.std.proofs.Common.{◌≡◌, ℕ, zero, suc, ◌+◌, Bool, true, false, not, ◌||◌, List, [], ◌∷◌, ◌++◌, Some, refl, sym, ap, ◌∙◌, subst, arith, ◌⊎◌, inl, inr}
use Rattle.std.specs.Prelude.{slice_get, ◌==◌}
use Rattle.std.specs.List.{list_all}
use Rattle.std.proofs.lemmas.Bool.{eqb-true, eq-eqb}
use Rattle.std.proofs.lemmas.List.{append_assoc}
use Rattle.std.proofs.lemmas.List.Folds.{list_any-append}
use Rattle.dip_graph.specs.Orders.{is_listed, is_met, is_ready, StandBehind}
use Rattle.dip_graph.specs.declared.design.BindEntry.{BindEntry}
use Rattle.dip_graph.specs.declared.edges.Edge.{Edge}
use Rattle.dip_negotiate.specs.Places.{source_end, sink_end, steps_at, steps_down, steps_up}
use Rattle.dip_lists.proofs.Tests.{both}
use Rattle.dip_graph.specs.Edges.{FollowsBind}
use Rattle.dip_negotiate.specs.Demands.{IsOneOf}
use Rattle.dip_negotiate.proofs.Runs.{InOrder, known_after}
use Rattle.dip_negotiate.proofs.Taken.{Knows, IsStep, at_node, knows_more, known_joined, order_joined, step_left, step_right, at_has, yes_or_no}

never : {A : Type 0} → true ≡ false → A
never z = absurd (cc)

either : (a b : Bool) → (a || b) ≡ true → (a ≡ true) ⊎ (b ≡ true)
either true b h = inl refl
either false b h = inr h

not_true : (a : Bool) → not a ≡ true → a ≡ false
not_true true h = absurd cc
not_true false h = refl

met_at : (p : BindEntry → Bool) (binds : List BindEntry) (k : ℕ) (b : BindEntry) → list_all p binds ≡ true → slice_get binds k ≡ Some b → p b ≡ true
met_at p [] k b h e = absurd cc
met_at p (x ∷ xs) zero b h e = let q : x ≡ b = cc in subst (λ (y : BindEntry). p y ≡ true) q (both (p x) (list_all p xs) h).0
met_at p (x ∷ xs) (suc k) b h e = met_at p xs k b (both (p x) (list_all p xs) h).1 e

not_true_or : (a b : Bool) → (not a || b) ≡ true → a ≡ true → b ≡ true
not_true_or true b h e = h
not_true_or false b h e = absurd cc

-- the nodes listed together
pub listed_joined : (a b : List ℕ) (m : ℕ) → is_listed (a ++ b) m ≡ (is_listed a m || is_listed b m)
listed_joined a b m = list_any-append (λ x. x == m) a b

listed_left : (a b : List ℕ) (m : ℕ) → is_listed a m ≡ true → is_listed (a ++ b) m ≡ true
listed_left a b m h = listed_joined a b m ∙ ap (λ x. x || is_listed b m) h

or_true : (a : Bool) → (a || true) ≡ true
or_true true = refl
or_true false = refl

listed_right : (a b : List ℕ) (m : ℕ) → is_listed b m ≡ true → is_listed (a ++ b) m ≡ true
listed_right a b m h = listed_joined a b m ∙ ap (λ x. is_listed a m || x) h ∙ or_true (is_listed a m)

listed_here : (n : ℕ) (ns : List ℕ) → is_listed (n ∷ ns) n ≡ true
listed_here n ns = ap (λ x. x || is_listed ns n) (eq-eqb n n refl)

listed_cases : (a : List ℕ) (n : ℕ) (b : List ℕ) (m : ℕ) → is_listed (a ++ n ∷ b) m ≡ true → (is_listed a m ≡ true) ⊎ ((m ≡ n) ⊎ (is_listed b m ≡ true))
listed_cases a n b m h = elim (either (is_listed a m) (is_listed (n ∷ b) m) (sym (listed_joined a (n ∷ b) m) ∙ h)) [
  | inl i ↦ inl i
  | inr i ↦ elim (either (n == m) (is_listed b m) i) [ inl q ↦ inr (inl (sym (eqb-true n m q))) | inr j ↦ inr (inr j) ]
]

module _ (binds : List BindEntry) (edges : List Edge) (follow : (x : ℕ) (edge : Edge) → slice_get edges x ≡ Some edge → FollowsBind binds edge) where
  new_one : (listed : List ℕ) (n : ℕ) → is_ready binds listed n ≡ true → is_listed listed n ≡ false
  new_one listed n r = not_true (is_listed listed n) (both (not (is_listed listed n)) (list_all (is_met listed n) binds) r).0

  -- the from-node of an edge to a ready node is listed
  from_listed : (listed : List ℕ) (n x : ℕ) (edge : Edge) → is_ready binds listed n ≡ true → slice_get edges x ≡ Some edge → edge.to ≡ n → is_listed listed edge.from ≡ true
  from_listed listed n x edge r e q =
      let f = follow x edge e in
      let m = met_at (is_met listed n) binds edge.bind f.made_by (both (not (is_listed listed n)) (list_all (is_met listed n) binds) r).1 f.is in
      let t : f.made_by.to ≡ n = sym f.to ∙ q in
      ap (is_listed listed) f.from ∙ not_true_or (f.made_by.to == n) (is_listed listed f.made_by.from) m (eq-eqb f.made_by.to n t)

  module _ (asks : Edge → List ℕ) where
    module _ (reached : (edge : Edge) (y : ℕ) → IsOneOf y (asks edge) → (other : Edge) × (slice_get edges y ≡ Some other) × (other.to ≡ edge.from)) where
      pub down_order : (listed ns known : List ℕ) → Knows source_end edges (is_listed listed) known → StandBehind binds listed ns → InOrder asks known (steps_down ns edges)
      down_order listed [] known k s = tt
      down_order listed (n ∷ ns) known k s =
          let new = new_one listed n s.0 in
          let fed : (x : ℕ) (edge : Edge) → slice_get edges x ≡ Some edge → edge.to ≡ n → is_listed listed edge.from ≡ true = λ x edge e q. from_listed listed n x edge s.0 e q in
          order_joined asks known (steps_at source_end n 0 edges) (steps_down ns edges)
          (at_node source_end sink_end edges asks reached (is_listed listed) n new fed known k)
          (down_order (listed ++ n ∷ []) ns (known_after known (steps_at source_end n 0 edges))
          (knows_more source_end sink_end edges asks reached (is_listed listed) n new fed known k (is_listed (listed ++ n ∷ []))
          (λ m h. listed_left listed (n ∷ []) m h)
          (listed_right listed (n ∷ []) n (listed_here n []))
          (λ m h. elim (listed_cases listed n [] m h) [ inl i ↦ inl i | inr (inl q) ↦ inr q | inr (inr z) ↦ absurd cc ]))
          s.1)

  -- with each node of a list, its from-nodes are in it
  abbrev IsClosed : List ℕ → Type 0
  IsClosed listed = (x : ℕ) (edge : Edge) → slice_get edges x ≡ Some edge → is_listed listed edge.to ≡ true → is_listed listed edge.from ≡ true

  closed_more : (listed : List ℕ) (n : ℕ) → is_ready binds listed n ≡ true → IsClosed listed → IsClosed (listed ++ n ∷ [])
  closed_more listed n r c x edge e h = elim (listed_cases listed n [] edge.to h) [
    | inl i ↦ listed_left listed (n ∷ []) edge.from (c x edge e i)
    | inr (inl q) ↦ listed_left listed (n ∷ []) edge.from (from_listed listed n x edge r e q)
    | inr (inr z) ↦ absurd cc
  ]

  -- a listed node doesn't come again
  not_again : (listed ns : List ℕ) (n : ℕ) → StandBehind binds listed ns → is_listed listed n ≡ true → is_listed ns n ≡ false
  not_again listed [] n s h = refl
  not_again listed (m ∷ ns) n s h = elim (yes_or_no (m == n)) [
    | inl q ↦ never (sym h ∙ ap (is_listed listed) (sym (eqb-true m n q)) ∙ new_one listed m s.0)
    | inr q ↦ ap (λ b. b || is_listed ns n) q ∙ not_again (listed ++ m ∷ []) ns n s.1 (listed_left listed (m ∷ []) n h)
  ]

  -- the to-nodes of a node's edges come later
  to_later : (listed : List ℕ) (n : ℕ) (ns : List ℕ) → is_ready binds listed n ≡ true → IsClosed listed
      → (x : ℕ) (edge : Edge) → slice_get edges x ≡ Some edge → edge.from ≡ n → is_listed (listed ++ n ∷ ns) edge.to ≡ true → is_listed ns edge.to ≡ true
  to_later listed n ns r c x edge e q h =
      let new : is_listed listed edge.from ≡ false = ap (is_listed listed) q ∙ new_one listed n r in
      elim (listed_cases listed n ns edge.to h) [
        | inl i ↦ never (sym (c x edge e i) ∙ new)
        | inr (inl t) ↦ never (sym (from_listed listed n x edge r e t) ∙ new)
        | inr (inr j) ↦ j
      ]

  module _ (asks : Edge → List ℕ) (reached : (edge : Edge) (y : ℕ) → IsOneOf y (asks edge) → (other : Edge) × (slice_get edges y ≡ Some other) × (other.from ≡ edge.to)) where
    -- the steps up of the last nodes are in order, and know the edges that enter these nodes
    pub record GoesUp (ns : List ℕ) : Type 0 where
      pub order : InOrder asks [] (steps_up ns edges)
      pub knows : Knows sink_end edges (is_listed ns) (known_after [] (steps_up ns edges))

    pub up_order : (listed ns : List ℕ) → StandBehind binds listed ns → IsClosed listed
        → ((x : ℕ) (edge : Edge) → slice_get edges x ≡ Some edge → is_listed (listed ++ ns) edge.to ≡ true) → GoesUp ns
    up_order listed [] s c all = record { order = tt; knows = record { has = λ x edge e p. absurd cc; only = λ x i. absurd i } }
    up_order listed (n ∷ ns) s c all =
        let later = up_order (listed ++ n ∷ []) ns s.1 (closed_more listed n s.0 c)
        (λ x edge e. ap (λ l. is_listed l edge.to) (append_assoc listed (n ∷ []) ns) ∙ all x edge e) in
        let new : is_listed ns n ≡ false = not_again (listed ++ n ∷ []) ns n s.1 (listed_right listed (n ∷ []) n (listed_here n [])) in
        let fed : (x : ℕ) (edge : Edge) → slice_get edges x ≡ Some edge → edge.from ≡ n → is_listed ns edge.to ≡ true =
        λ x edge e q. to_later listed n ns s.0 c x edge e q (all x edge e) in
        let known = known_after [] (steps_up ns edges) in
        record {
          order = order_joined asks [] (steps_up ns edges) (steps_at sink_end n 0 edges) later.order
              (at_node sink_end source_end edges asks reached (is_listed ns) n new fed known later.knows);
          knows = subst (λ k. Knows sink_end edges (is_listed (n ∷ ns)) k) (sym (known_joined [] (steps_up ns edges) (steps_at sink_end n 0 edges)))
              (knows_more sink_end source_end edges asks reached (is_listed ns) n new fed known later.knows (is_listed (n ∷ ns))
              (λ m h. ap (λ b. (n == m) || b) h ∙ or_true (n == m))
              (listed_here n ns)
              (λ m h. elim (either (n == m) (is_listed ns m) h) [ inl q ↦ inr (sym (eqb-true n m q)) | inr i ↦ inl i ]));
        }

-- ---- every edge is a step

pub step_down : (ns : List ℕ) (edges : List Edge) (x : ℕ) (edge : Edge) → slice_get edges x ≡ Some edge → is_listed ns edge.from ≡ true → IsStep x edge (steps_down ns edges)
step_down [] edges x edge e h = absurd cc
step_down (n ∷ ns) edges x edge e h = elim (either (n == edge.from) (is_listed ns edge.from) h) [
  | inl q ↦ step_left x edge (steps_at source_end n 0 edges) (steps_down ns edges)
      (subst (λ y. IsStep y edge (steps_at source_end n 0 edges)) (from_none x) (at_has source_end n edge 0 edges x e (sym (eqb-true n edge.from q))))
  | inr i ↦ step_right x edge (steps_at source_end n 0 edges) (steps_down ns edges) (step_down ns edges x edge e i)
]
  where
    from_none : (j : ℕ) → 0 + j ≡ j
    from_none j = omega arith

pub step_up : (ns : List ℕ) (edges : List Edge) (x : ℕ) (edge : Edge) → slice_get edges x ≡ Some edge → is_listed ns edge.to ≡ true → IsStep x edge (steps_up ns edges)
step_up [] edges x edge e h = absurd cc
step_up (n ∷ ns) edges x edge e h = elim (either (n == edge.to) (is_listed ns edge.to) h) [
  | inl q ↦ step_right x edge (steps_up ns edges) (steps_at sink_end n 0 edges)
      (subst (λ y. IsStep y edge (steps_at sink_end n 0 edges)) (from_none x) (at_has sink_end n edge 0 edges x e (sym (eqb-true n edge.to q))))
  | inr i ↦ step_left x edge (steps_up ns edges) (steps_at sink_end n 0 edges) (step_up ns edges x edge e i)
]
  where
    from_none : (j : ℕ) → 0 + j ≡ j
    from_none j = omega arith
