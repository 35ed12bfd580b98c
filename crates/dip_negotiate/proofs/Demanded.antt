-- The answers of demands beside the whole solution and beside each other.
use Rattle.std.proofs.Common.{◌≡◌, ℕ, ◌≤◌, ◌<◌, List, refl, sym, ap, ◌∙◌, subst, arith, inl, inr, Some, Result, Err}
use Rattle.std.specs.Prelude.{slice_get}
use Rattle.std.proofs.lemmas.Bool.{cases_eq, cases_lt}
use Rattle.dip_graph.specs.Orders.{canonical_order}
use Rattle.dip_graph.specs.declared.edges.Edge.{Edge}
use Rattle.dip_negotiate.specs.declared.steps.Step.{Step}
use Rattle.dip_negotiate.specs.Passes.{Pass, stated, OnlySolves}
use Rattle.dip_negotiate.specs.Places.{steps_down, steps_up}
use Rattle.dip_negotiate.specs.Negotiation.{down_pass, up_pass}
use Rattle.dip_negotiate.specs.Demands.{PortDependsOn, IsTakenBefore, IsFirstRefusal, IsPortOf}
use Rattle.dip_negotiate.specs.DemandsLaw.{DemandedPortLaw, DemandRefusalLaw}
use Rattle.dip_negotiate.specs.Turns.{InTurn}
use Rattle.dip_negotiate.proofs.Needed.{same_step}
use Rattle.dip_negotiate.proofs.Only.{no_ok}
use Rattle.dip_negotiate.proofs.Turned.{down_in_turn, up_in_turn}

solved_port : {P : Type 0} (pass : Pass P) (edges : List Edge) (ports : List P) → OnlySolves pass edges ports → (i : ℕ) (edge : Edge) (port : P) → slice_get edges i ≡ Some edge → IsPortOf pass edges i port
    → slice_get ports i ≡ Some port
solved_port pass edges ports s i edge port ie p = p.only.only ports (λ k e ke o. s.solves.holds k e ke) i edge ie (λ has c h. h) ∙ p.here

pub demanded_port : DemandedPortLaw
demanded_port = record {
  down = λ rules design edges solution s i edge port ie p. solved_port (down_pass rules design.nodes edges) edges solution.down s.down i edge port ie p;
  up = λ rules design edges solution s i edge port ie p. solved_port (up_pass rules design.nodes edges) edges solution.up s.up i edge port ie p;
}

same_err : {P : Type 0} (r : Result P ℕ) (m n : ℕ) → r ≡ Err m → r ≡ Err n → m ≡ n
same_err r m n a b = cc

module _ {P : Type 0} (pass : Pass P) (edges : List Edge) (steps : List Step) (turns : InTurn pass edges steps) (Own : ℕ → Type 0) where
  earlier : (d e : Edge) (m n : ℕ) (r : IsFirstRefusal pass edges steps Own d m) (t : IsFirstRefusal pass edges steps Own e n) → r.turn < t.turn → ⊥
  earlier d e m n r t l =
      let h = t.before r.refused d (turns.sound r.turn (record { number = r.refused; edge = d }) r.taken) (r.own, (r.turn, record { number = r.refused; edge = d }, l, r.taken, refl)) in
      no_ok (stated pass t.ports d) h.port m h.is (r.refuses t.ports (λ k x kx o. t.before k x kx (o.0, (o.1.0, o.1.1, less o.1.0 o.1.2, o.1.3, o.1.4))))
    where
      less : (q : ℕ) → q < r.turn → q < t.turn
      less q a = omega (arith, l)

  pub one_refusal : (d e : Edge) (m n : ℕ) → IsFirstRefusal pass edges steps Own d m → IsFirstRefusal pass edges steps Own e n → (d ≡ e) × (m ≡ n)
  one_refusal d e m n r t = elim (cases_eq r.turn t.turn) [
    | inl q ↦ (let same : record { number = r.refused; edge = d } ≡ record { number = t.refused; edge = e } = same_step _ _ (sym r.taken ∙ ap (slice_get steps) q ∙ t.taken) in
        let edge_is : d ≡ e = ap (λ (s : Step). s.edge) same in
        let said : stated pass r.ports e ≡ Err n = t.refuses r.ports (λ k x kx o. r.before k x kx (o.0, subst (λ z. IsTakenBefore steps z k) (sym q) o.1)) in
        (edge_is, same_err (stated pass r.ports d) m n (r.refuses r.ports r.before) (ap (stated pass r.ports) edge_is ∙ said)))
    | inr o ↦ elim (cases_lt r.turn t.turn) [
      | inl l ↦ absurd (earlier d e m n r t l)
      | inr g ↦ absurd (earlier e d n m t r (less r.turn t.turn g o))
    ]
  ]
    where
      less : (a b : ℕ) → b ≤ a → (a ≡ b → ⊥) → b < a
      less a b g o = omega arith

pub demand_refusal : DemandRefusalLaw
demand_refusal = record {
  one_down = λ rules design edges n i d e a b r t.
      one_refusal (down_pass rules design.nodes edges) edges (steps_down (canonical_order design) edges) (down_in_turn rules design edges n (steps_down (canonical_order design) edges) refl)
      (PortDependsOn (down_pass rules design.nodes edges) edges i) d e a b r t;
  one_up = λ rules design edges n i d e a b r t.
      one_refusal (up_pass rules design.nodes edges) edges (steps_up (canonical_order design) edges) (up_in_turn rules design edges n (steps_up (canonical_order design) edges) refl)
      (PortDependsOn (up_pass rules design.nodes edges) edges i) d e a b r t;
  none_down = λ rules design edges i e n port r p. r.unsolved p.ports p.only.solves;
  none_up = λ rules design edges i e n port r p. r.unsolved p.ports p.only.solves;
}
