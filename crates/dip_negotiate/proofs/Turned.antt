-- The steps of a pass are the edges in turn.
use Rattle.std.proofs.Common.{◌≡◌, ℕ, zero, suc, ◌<◌, List, [], ◌∷◌, refl, sym, ap, ◌∙◌, subst, arith, ◌⊎◌, inl, inr, Some}
use Rattle.std.specs.Prelude.{slice_get}
use Rattle.dip_graph.specs.declared.edges.Edge.{Edge}
use Rattle.dip_graph.specs.declared.design.Design.{Design}
use Rattle.dip_graph.specs.Orders.{canonical_order}
use Rattle.dip_rule.specs.Stated.{StatedRule}
use Rattle.dip_negotiate.specs.declared.steps.Step.{Step}
use Rattle.dip_negotiate.specs.Passes.{Pass}
use Rattle.dip_negotiate.specs.Places.{steps_down, steps_up}
use Rattle.dip_negotiate.specs.Negotiation.{IsNegotiable, down_pass, up_pass}
use Rattle.dip_negotiate.specs.Demands.{IsOneOf}
use Rattle.dip_negotiate.specs.Turns.{InTurn}
use Rattle.dip_negotiate.proofs.Runs.{InOrder}
use Rattle.dip_negotiate.proofs.Taken.{IsStep}
use Rattle.dip_negotiate.proofs.Law.{Covers, covers_down, covers_up, order_down, order_up}

is_step : (steps : List Step) (q : ℕ) (s : Step) → slice_get steps q ≡ Some s → IsStep s.number s.edge steps
is_step [] q s h = absurd cc
is_step (t ∷ steps) zero s h = let e : t ≡ s = cc in inl (ap (λ (x : Step). x.number) (sym e), ap (λ (x : Step). x.edge) (sym e))
is_step (t ∷ steps) (suc q) s h = inr (is_step steps q s h)

same_step : (k : ℕ) (edge : Edge) (s : Step) → k ≡ s.number → edge ≡ s.edge → s ≡ record { number = k; edge = edge }
same_step k edge s n e = ap (λ x. record { number = x; edge = s.edge }) (sym n) ∙ ap (λ x. record { number = k; edge = x }) (sym e)

step_at : (steps : List Step) (k : ℕ) (edge : Edge) → IsStep k edge steps → (q : ℕ) × (slice_get steps q ≡ Some (record { number = k; edge = edge }))
step_at [] k edge h = absurd h
step_at (t ∷ steps) k edge (inl e) = (0, ap Some (same_step k edge t e.0 e.1))
step_at (t ∷ steps) k edge (inr i) = let f = step_at steps k edge i in (suc f.0, f.1)

module _ (asks : Edge → List ℕ) where
  -- what a step asks is known, or made by a step before it
  asked_before : (known : List ℕ) (steps : List Step) → InOrder asks known steps → (q : ℕ) (s : Step) → slice_get steps q ≡ Some s → (y : ℕ) → IsOneOf y (asks s.edge)
      → IsOneOf y known ⊎ ((r : ℕ) × (t : Step) × (r < q) × (slice_get steps r ≡ Some t) × (t.number ≡ y))
  asked_before known [] o q s h y i = absurd cc
  asked_before known (t ∷ steps) o zero s h y i = let e : t ≡ s = cc in inl (o.0 y (subst (λ (x : Step). IsOneOf y (asks x.edge)) (sym e) i))
  asked_before known (t ∷ steps) o (suc q) s h y i = elim (asked_before (t.number ∷ known) steps o.2 q s h y i) [
    | inl (inl e) ↦ inr (0, t, zero_less q, refl, sym e)
    | inl (inr j) ↦ inl j
    | inr f ↦ inr (suc f.0, f.1, more f.0 f.2, f.3, f.4)
  ]
    where
      zero_less : (q : ℕ) → 0 < suc q
      zero_less q = omega arith

      more : (r : ℕ) → r < q → suc r < suc q
      more r l = omega arith

  -- a step's edge isn't known before it
  is_new : (known : List ℕ) (steps : List Step) → InOrder asks known steps → (q : ℕ) (s : Step) → slice_get steps q ≡ Some s → IsOneOf s.number known → ⊥
  is_new known [] o q s h i = absurd cc
  is_new known (t ∷ steps) o zero s h i = let e : t ≡ s = cc in o.1 (subst (λ (x : Step). IsOneOf x.number known) (sym e) i)
  is_new known (t ∷ steps) o (suc q) s h i = is_new (t.number ∷ known) steps o.2 q s h (inr i)

  is_once : (known : List ℕ) (steps : List Step) → InOrder asks known steps → (q r : ℕ) (s t : Step) → slice_get steps q ≡ Some s → slice_get steps r ≡ Some t → s.number ≡ t.number → q ≡ r
  is_once known [] o q r s t hs ht e = absurd cc
  is_once known (u ∷ steps) o zero zero s t hs ht e = refl
  is_once known (u ∷ steps) o zero (suc r) s t hs ht e =
      let q : u ≡ s = cc in absurd (is_new (u.number ∷ known) steps o.2 r t ht (inl (sym e ∙ ap (λ (x : Step). x.number) (sym q))))
  is_once known (u ∷ steps) o (suc q) zero s t hs ht e =
      let p : u ≡ t = cc in absurd (is_new (u.number ∷ known) steps o.2 q s hs (inl (e ∙ ap (λ (x : Step). x.number) (sym p))))
  is_once known (u ∷ steps) o (suc q) (suc r) s t hs ht e = ap suc (is_once (u.number ∷ known) steps o.2 q r s t hs ht e)

pub in_turn : {P : Type 0} (pass : Pass P) (edges : List Edge) (steps : List Step) → InOrder pass.asks [] steps → Covers edges steps → InTurn pass edges steps
in_turn pass edges steps o c = record {
  sound = λ q s h. c.sound s.number s.edge (is_step steps q s h);
  whole = λ k edge h. step_at steps k edge (c.whole k edge h);
  once = λ q r s t hs ht e. is_once pass.asks [] steps o q r s t hs ht e;
  behind = λ q s h y i. elim (asked_before pass.asks [] steps o q s h y i) [ inl j ↦ absurd j | inr f ↦ f ];
}

pub down_in_turn : (rules : List StatedRule) (design : Design) (edges : List Edge) → IsNegotiable design edges → (steps : List Step) → steps ≡ steps_down (canonical_order design) edges
    → InTurn (down_pass rules design.nodes edges) edges steps
down_in_turn rules design edges n steps q = subst (λ ss. InTurn (down_pass rules design.nodes edges) edges ss) (sym q)
    (in_turn (down_pass rules design.nodes edges) edges (steps_down (canonical_order design) edges) (order_down design edges n rules) (covers_down design edges n))

pub up_in_turn : (rules : List StatedRule) (design : Design) (edges : List Edge) → IsNegotiable design edges → (steps : List Step) → steps ≡ steps_up (canonical_order design) edges
    → InTurn (up_pass rules design.nodes edges) edges steps
up_in_turn rules design edges n steps q = subst (λ ss. InTurn (up_pass rules design.nodes edges) edges ss) (sym q)
    (in_turn (up_pass rules design.nodes edges) edges (steps_up (canonical_order design) edges) (order_up design edges n rules) (covers_up design edges n))
