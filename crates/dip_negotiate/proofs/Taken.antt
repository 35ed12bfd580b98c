-- The steps of nodes, one after another.
use Rattle.std.proofs.Common.{◌≡◌, ℕ, zero, suc, ◌+◌, ◌<◌, Bool, true, false, cond, List, [], ◌∷◌, ◌++◌, Some, refl, sym, ap, ◌∙◌, subst, arith, ◌⊎◌, inl, inr}
use Rattle.std.specs.Prelude.{slice_get, ◌==◌}
use Rattle.std.proofs.lemmas.Bool.{eqb-true, eq-eqb}
use Rattle.dip_graph.specs.declared.edges.Edge.{Edge}
use Rattle.dip_negotiate.specs.declared.steps.End.{End}
use Rattle.dip_negotiate.specs.declared.steps.Step.{Step}
use Rattle.dip_negotiate.specs.Places.{step, steps_at}
use Rattle.dip_negotiate.specs.Demands.{IsOneOf}
use Rattle.dip_negotiate.proofs.Runs.{InOrder, known_after}

-- an edge with this number is a step
abbrev pub IsStep : ℕ → Edge → List Step → Type 0
IsStep x edge [] = ⊥
IsStep x edge (s ∷ steps) = ((x ≡ s.number) × (edge ≡ s.edge)) ⊎ IsStep x edge steps

pub step_left : (x : ℕ) (edge : Edge) (a b : List Step) → IsStep x edge a → IsStep x edge (a ++ b)
step_left x edge [] b h = absurd h
step_left x edge (s ∷ a) b (inl q) = inl q
step_left x edge (s ∷ a) b (inr i) = inr (step_left x edge a b i)

pub step_right : (x : ℕ) (edge : Edge) (a b : List Step) → IsStep x edge b → IsStep x edge (a ++ b)
step_right x edge [] b h = h
step_right x edge (s ∷ a) b h = inr (step_right x edge a b h)

pub still_known : (x : ℕ) (known : List ℕ) (steps : List Step) → IsOneOf x known → IsOneOf x (known_after known steps)
still_known x known [] h = h
still_known x known (s ∷ steps) h = still_known x (s.number ∷ known) steps (inr h)

pub known_step : (x : ℕ) (edge : Edge) (known : List ℕ) (steps : List Step) → IsStep x edge steps → IsOneOf x (known_after known steps)
known_step x edge known [] h = absurd h
known_step x edge known (s ∷ steps) (inl q) = still_known x (s.number ∷ known) steps (inl q.0)
known_step x edge known (s ∷ steps) (inr i) = known_step x edge (s.number ∷ known) steps i

pub known_from : (x : ℕ) (known : List ℕ) (steps : List Step) → IsOneOf x (known_after known steps) → IsOneOf x known ⊎ ((edge : Edge) × IsStep x edge steps)
known_from x known [] h = inl h
known_from x known (s ∷ steps) h = elim (known_from x (s.number ∷ known) steps h) [
  | inl (inl q) ↦ inr (s.edge, inl (q, refl))
  | inl (inr i) ↦ inl i
  | inr f ↦ inr (f.0, inr f.1)
]

pub known_joined : (known : List ℕ) (a b : List Step) → known_after known (a ++ b) ≡ known_after (known_after known a) b
known_joined known [] b = refl
known_joined known (s ∷ a) b = known_joined (s.number ∷ known) a b

pub order_joined : (asks : Edge → List ℕ) (known : List ℕ) (a b : List Step) → InOrder asks known a → InOrder asks (known_after known a) b → InOrder asks known (a ++ b)
order_joined asks known [] b oa ob = ob
order_joined asks known (s ∷ a) b oa ob = (oa.0, oa.1, order_joined asks (s.number ∷ known) a b oa.2 ob)

from_none : (j : ℕ) → j ≡ 0 + j
from_none j = omega arith

same_some : {A : Type 0} (x y : A) → Some x ≡ Some y → x ≡ y
same_some x y e = cc

no_bool : false ≡ true → ⊥
no_bool z = cc

pub yes_or_no : (b : Bool) → (b ≡ true) ⊎ (b ≡ false)
yes_or_no true = inl refl
yes_or_no false = inr refl

module _ (near : Edge → End) (node : ℕ) where
  -- what the steps of a node are: the edges whose near ends are there
  pub at_is : (x : ℕ) (edge : Edge) (from : ℕ) (edges : List Edge) → IsStep x edge (steps_at near node from edges)
      → (j : ℕ) × (x ≡ from + j) × (slice_get edges j ≡ Some edge) × ((near edge).node ≡ node)
  at_is x edge from [] h = absurd h
  at_is x edge from (e ∷ edges) h = at ((near e).node == node) refl h (at_is x edge (from + 1) edges)
    where
      later : ((j : ℕ) × (x ≡ from + 1 + j) × (slice_get edges j ≡ Some edge) × ((near edge).node ≡ node))
          → (j : ℕ) × (x ≡ from + j) × (slice_get (e ∷ edges) j ≡ Some edge) × ((near edge).node ≡ node)
      later f = let q : x ≡ from + suc f.0 = omega (arith, f.1) in (suc f.0, q, f.2, f.3)

      at : (b : Bool) → ((near e).node == node) ≡ b → IsStep x edge (cond b (step from e ∷ steps_at near node (from + 1) edges) (steps_at near node (from + 1) edges))
          → (IsStep x edge (steps_at near node (from + 1) edges) → (j : ℕ) × (x ≡ from + 1 + j) × (slice_get edges j ≡ Some edge) × ((near edge).node ≡ node))
          → (j : ℕ) × (x ≡ from + j) × (slice_get (e ∷ edges) j ≡ Some edge) × ((near edge).node ≡ node)
      at true q (inl i) f =
          let z : x ≡ from + 0 = omega (arith, i.0) in
          (0, z, ap Some (sym i.1), ap (λ (d : Edge). (near d).node) i.1 ∙ eqb-true (near e).node node q)
      at true q (inr i) f = later (f i)
      at false q i f = later (f i)

  pub at_has : (edge : Edge) (from : ℕ) (edges : List Edge) (j : ℕ) → slice_get edges j ≡ Some edge → (near edge).node ≡ node → IsStep (from + j) edge (steps_at near node from edges)
  at_has edge from [] j e h = absurd cc
  at_has edge from (d ∷ edges) j e h = at ((near d).node == node) refl j e (λ k q. at_has edge (from + 1) edges k q h)
    where
      moved : (k : ℕ) → IsStep (from + 1 + k) edge (steps_at near node (from + 1) edges) → IsStep (from + suc k) edge (steps_at near node (from + 1) edges)
      moved k i = let q : from + 1 + k ≡ from + suc k = omega arith in subst (λ x. IsStep x edge (steps_at near node (from + 1) edges)) q i

      at : (b : Bool) → ((near d).node == node) ≡ b → (j : ℕ) → slice_get (d ∷ edges) j ≡ Some edge
          → ((k : ℕ) → slice_get edges k ≡ Some edge → IsStep (from + 1 + k) edge (steps_at near node (from + 1) edges))
          → IsStep (from + j) edge (cond b (step from d ∷ steps_at near node (from + 1) edges) (steps_at near node (from + 1) edges))
      at true q zero e f = let z : from + 0 ≡ from = omega arith in inl (z, sym (same_some d edge e))
      at false q zero e f =
          let s : d ≡ edge = same_some d edge e in
          absurd (no_bool (sym q ∙ eq-eqb (near d).node node (ap (λ (x : Edge). (near x).node) s ∙ h)))
      at true q (suc k) e f = inr (moved k (f k e))
      at false q (suc k) e f = moved k (f k e)

-- the edges whose near ends are at nodes that pass a test are known, and no others
pub record Knows (near : Edge → End) (edges : List Edge) (passes : ℕ → Bool) (known : List ℕ) : Type 0 where
  pub has : (x : ℕ) (edge : Edge) → slice_get edges x ≡ Some edge → passes (near edge).node ≡ true → IsOneOf x known
  pub only : (x : ℕ) → IsOneOf x known → (edge : Edge) × (slice_get edges x ≡ Some edge) × (passes (near edge).node ≡ true)

module _ (near far : Edge → End) (edges : List Edge) (asks : Edge → List ℕ)
    (reached : (edge : Edge) (y : ℕ) → IsOneOf y (asks edge) → (other : Edge) × (slice_get edges y ≡ Some other) × ((far other).node ≡ (near edge).node)) where
  -- all edges that reach a node come from nodes that pass
  abbrev pub IsFed : (ℕ → Bool) → ℕ → Type 0
  IsFed passes node = (x : ℕ) (edge : Edge) → slice_get edges x ≡ Some edge → (far edge).node ≡ node → passes (near edge).node ≡ true

  both_ways : (passes : ℕ → Bool) (node : ℕ) → passes node ≡ false → (edge : Edge) → passes (near edge).node ≡ true → (near edge).node ≡ node → ⊥
  both_ways passes node no_ edge yes_ q = let z : false ≡ true = sym no_ ∙ ap passes (sym q) ∙ yes_ in cc

  module _ (passes : ℕ → Bool) (node : ℕ) (new : passes node ≡ false) (fed : IsFed passes node) where
    node_order : (from : ℕ) (rest : List Edge) (known : List ℕ) → ((j : ℕ) → slice_get rest j ≡ slice_get edges (from + j))
        → ((x : ℕ) (edge : Edge) → slice_get edges x ≡ Some edge → passes (near edge).node ≡ true → IsOneOf x known)
        → ((x : ℕ) → IsOneOf x known → ((edge : Edge) × (slice_get edges x ≡ Some edge) × (passes (near edge).node ≡ true)) ⊎ (x < from))
        → InOrder asks known (steps_at near node from rest)
    node_order from [] known same has only = tt
    node_order from (e ∷ rest) known same has only =
        at ((near e).node == node) refl
        (node_order (from + 1) rest (from ∷ known) tail (λ x d q p. inr (has x d q p)) (λ x i. elim i [ inl q ↦ inr (omega (arith, q)) | inr j ↦ more x (only x j) ]))
        (node_order (from + 1) rest known tail has (λ x i. more x (only x i)))
      where
        tail : (j : ℕ) → slice_get rest j ≡ slice_get edges (from + 1 + j)
        tail j = let q : from + suc j ≡ from + 1 + j = omega arith in same (suc j) ∙ ap (slice_get edges) q

        more : (x : ℕ) → ((edge : Edge) × (slice_get edges x ≡ Some edge) × (passes (near edge).node ≡ true)) ⊎ (x < from)
            → ((edge : Edge) × (slice_get edges x ≡ Some edge) × (passes (near edge).node ≡ true)) ⊎ (x < from + 1)
        more x (inl f) = inl f
        more x (inr l) = inr (omega (arith, l))

        here : slice_get edges from ≡ Some e
        here = let q : from + 0 ≡ from = omega arith in sym (same 0 ∙ ap (slice_get edges) q)

        at : (b : Bool) → ((near e).node == node) ≡ b → InOrder asks (from ∷ known) (steps_at near node (from + 1) rest) → InOrder asks known (steps_at near node (from + 1) rest)
            → InOrder asks known (cond b (step from e ∷ steps_at near node (from + 1) rest) (steps_at near node (from + 1) rest))
        at false q a b = b
        at true q a b =
            let is : (near e).node ≡ node = eqb-true (near e).node node q in (
              (λ y i. let r = reached e y i in has y r.0 r.1 (fed y r.0 r.1 (r.2 ∙ is))),
              (λ i. elim (only from i) [
                | inl f ↦ both_ways passes node new f.0 f.2 (ap (λ (d : Edge). (near d).node) (same_some f.0 e (sym f.1 ∙ here)) ∙ is)
                | inr l ↦ absurd (omega (arith, l))
              ]),
              a,
            )

    pub at_node : (known : List ℕ) → Knows near edges passes known → InOrder asks known (steps_at near node 0 edges)
    at_node known k = node_order 0 edges known (λ j. ap (slice_get edges) (from_none j)) k.has (λ x i. inl (k.only x i))

    pub knows_more : (known : List ℕ) → Knows near edges passes known → (after : ℕ → Bool) → ((m : ℕ) → passes m ≡ true → after m ≡ true) → after node ≡ true
        → ((m : ℕ) → after m ≡ true → (passes m ≡ true) ⊎ (m ≡ node)) → Knows near edges after (known_after known (steps_at near node 0 edges))
    knows_more known k after keeps this either = record {
      has = λ x edge e p. elim (either (near edge).node p) [
        | inl q ↦ still_known x known (steps_at near node 0 edges) (k.has x edge e q)
        | inr q ↦ known_step x edge known (steps_at near node 0 edges) (subst (λ y. IsStep y edge (steps_at near node 0 edges)) (sym (from_none x)) (at_has near node edge 0 edges x e q))
      ];
      only = λ x i. elim (known_from x known (steps_at near node 0 edges) i) [
        | inl j ↦ (let f = k.only x j in (f.0, f.1, keeps (near f.0).node f.2))
        | inr f ↦ (let g = at_is near node x f.0 0 edges f.1 in
            let z : x ≡ g.0 = g.1 ∙ sym (from_none g.0) in
            (f.0, ap (slice_get edges) z ∙ g.2, ap after g.3 ∙ this))
      ];
    }
