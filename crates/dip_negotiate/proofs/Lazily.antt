-- What a lazy negotiation keeps, from what is kept of one direction.
use Rattle.std.proofs.Common.{◌≡◌, ℕ, zero, suc, ◌<◌, true, List, [], ◌∷◌, length, map, replicate, get_or, refl, sym, ap, ◌∙◌, subst, arith, inl, inr, Option, Some, None, Bor, Result, Ok, Err}
use Rattle.std.specs.Prelude.{slice_get, is_some, IfSome}
use Rattle.std.specs.Option.{option_copied}
use Rattle.std.proofs.lemmas.List.{length-map, length-replicate, get_or-replicate, get_or_past}
use Rattle.std.proofs.lemmas.Option.{none-some}
use Rattle.std.proofs.lemmas.Bool.{cases_lt}
use Rattle.dip_graph.specs.declared.edges.Edge.{Edge}
use Rattle.dip_negotiate.specs.declared.steps.Step.{Step}
use Rattle.dip_negotiate.specs.declared.steps.End.{End}
use Rattle.dip_negotiate.specs.declared.demands.PassFault.{PassFault}
use Rattle.dip_negotiate.specs.declared.demands.PassFault.TheVariants.{Refused, Memory}
use Rattle.dip_negotiate.specs.declared.solution.NegFault.{NegFault}
use Rattle.dip_negotiate.specs.declared.solution.NegFault.TheVariants.{DownRefused, UpRefused, Memory as NegMemory}
use Rattle.dip_graph.specs.Orders.{canonical_order}
use Rattle.dip_graph.specs.declared.design.Design.{Design}
use Rattle.dip_rule.specs.Stated.{StatedRule}
use Rattle.dip_negotiate.specs.Passes.{Pass, Refusal, refusal}
use Rattle.dip_negotiate.specs.Places.{source_end, sink_end, steps_down, steps_up}
use Rattle.dip_negotiate.specs.Negotiation.{down_pass, up_pass, downs, ups, place_of, IsDownFault, IsUpFault, IsNegotiable, IsOnlySolution, IsRefusalAt}
use Rattle.dip_negotiate.specs.Demands.{PortDependsOn, IsDown, IsDownRefusal, IsFirstRefusal, IsUp, IsUpRefusal, first_shares, end_places, IsKnown, IsPortOf, keeps, KeepsNone, KeepsOnly, seen, SharePlace}
use Rattle.dip_negotiate.specs.Turns.{InTurn, SameFirst}
use Rattle.dip_negotiate.proofs.Needed.{not_both}
use Rattle.dip_negotiate.proofs.Only.{port_of}
use Rattle.dip_negotiate.proofs.Shared.{down_shared, one_place, up_shared}
use Rattle.dip_negotiate.proofs.Law.{negotiation}
use Rattle.tl_params.specs.declared.ports.DownPort.{DownPort}
use Rattle.tl_params.specs.declared.ports.UpPort.{UpPort}

-- nothing is kept at first
pub seen_nothing : {P : Type 0} (firsts : List ℕ) (ports : List (Option P)) (n : ℕ) → ports ≡ replicate n None → KeepsNone (seen firsts ports)
seen_nothing {P = P} firsts ports n q k = subst (λ (x : List (Option P)). get_or (seen firsts x) k None ≡ None) (sym q) (each firsts k)
  where
    none : (n i : ℕ) → get_or (replicate {A = Option P} n None) i None ≡ None
    none n i = elim (cases_lt i n) [
      | inl l ↦ get_or-replicate n i None None l
      | inr g ↦ get_or_past (replicate n None) i None (let e = length-replicate {A = Option P} n None in omega (arith, e))
    ]

    each : (fs : List ℕ) (k : ℕ) → get_or (seen {P = P} fs (replicate n None)) k None ≡ None
    each [] k = refl
    each (f ∷ fs) zero = none n f
    each (f ∷ fs) (suc k) = each fs k

pub nothing_known : {P : Type 0} (pass : Pass P) (edges : List Edge) (firsts : List ℕ) (ports : List (Option P)) (n : ℕ) → ports ≡ replicate n None → length firsts ≡ length edges
    → IsKnown pass edges (seen firsts ports)
nothing_known pass edges firsts ports n q l = record {
  long = length-map firsts (λ first. get_or ports first None) ∙ l;
  closed = λ k edge is h y i. absurd (not_both (keeps (seen firsts ports) k) h (ap is_some (seen_nothing firsts ports n q k)));
  holds = λ k edge port is h. absurd (none-some port (sym (seen_nothing firsts ports n q k) ∙ h));
}

-- the port that is kept is the only one
pub some_port : {P : Type 0} (pass : Pass P) (edges : List Edge) (steps : List Step) → InTurn pass edges steps → (i : ℕ) (known : List (Option P)) → IsKnown pass edges known
    → (o : Option (Bor P)) → option_copied o ≡ get_or known i None → IfSome o (λ port. IsPortOf pass edges i port.now)
some_port pass edges steps turns i known is None e = tt
some_port pass edges steps turns i known is (Some b) e = port_of pass edges steps turns i known b.now is (sym e)

-- what came to be kept, in words of places
pub shared_only : {P : Type 0} (place : Edge → End) (edges : List Edge) (firsts : List ℕ) → firsts ≡ first_shares (map place edges) → (Own : ℕ → Type 0)
    → (old new : List (Option P)) → length new ≡ length edges → ((j : ℕ) → Own j → j < length edges) → KeepsOnly (SameFirst firsts) Own old new → KeepsOnly (SharePlace place edges) Own old new
shared_only place edges firsts q Own old new long within o k h = elim (o k h) [
  | inl t ↦ inl t
  | inr f ↦ (let d = edge_of edges f.0 (within f.0 f.1) in
      let e = edge_of edges k (known_within k h) in
      inr (f.0, f.1, (d.0, e.0, d.1, e.1, one_place place edges f.0 k d.0 e.0 d.1 e.1 (subst (λ fs. SameFirst fs f.0 k) q f.2))))
]
  where
    known_within : (k : ℕ) → keeps new k ≡ true → k < length edges
    known_within k h = elim (cases_lt k (length new)) [
      | inl l ↦ subst (λ n. k < n) long l
      | inr g ↦ absurd (not_both (keeps new k) h (ap is_some (get_or_past new k None g)))
    ]

    edge_of : (es : List Edge) (k : ℕ) → k < length es → (edge : Edge) × (slice_get es k ≡ Some edge)
    edge_of [] k l = absurd (omega arith)
    edge_of (e ∷ es) zero l = (e, refl)
    edge_of (e ∷ es) (suc k) l = edge_of es k (omega arith)

-- a refusal of a demand, by the place of the refused edge
pub down_refusal : (rules : List StatedRule) (design : Design) (edges : List Edge) (i : ℕ) (f : PassFault) (r : NegFault)
    → ((e : Edge) (n : ℕ) → f ≡ Refused e n → IsFirstRefusal (down_pass rules design.nodes edges) edges (steps_down (canonical_order design) edges) (PortDependsOn (down_pass rules design.nodes edges) edges i) e n)
    → ((e : Edge) (n : ℕ) → f ≡ Refused e n → r ≡ DownRefused (place_of rules design.nodes (source_end e)).node (place_of rules design.nodes (source_end e)).port n)
    → (f ≡ Memory → r ≡ NegMemory) → IsDownRefusal rules design edges i r
down_refusal rules design edges i (Refused e n) r first at_ memory =
    subst (λ (x : NegFault). IsDownRefusal rules design edges i x) (sym (at_ e n refl)) (e, first e n refl, refl)
down_refusal rules design edges i Memory r first at_ memory = subst (λ (x : NegFault). IsDownRefusal rules design edges i x) (sym (memory refl)) tt

pub up_refusal : (rules : List StatedRule) (design : Design) (edges : List Edge) (i : ℕ) (f : PassFault) (r : NegFault)
    → ((e : Edge) (n : ℕ) → f ≡ Refused e n → IsFirstRefusal (up_pass rules design.nodes edges) edges (steps_up (canonical_order design) edges) (PortDependsOn (up_pass rules design.nodes edges) edges i) e n)
    → ((e : Edge) (n : ℕ) → f ≡ Refused e n → r ≡ UpRefused (place_of rules design.nodes (sink_end e)).node (place_of rules design.nodes (sink_end e)).port n)
    → (f ≡ Memory → r ≡ NegMemory) → IsUpRefusal rules design edges i r
up_refusal rules design edges i (Refused e n) r first at_ memory =
    subst (λ (x : NegFault). IsUpRefusal rules design edges i x) (sym (at_ e n refl)) (e, first e n refl, refl)
up_refusal rules design edges i Memory r first at_ memory = subst (λ (x : NegFault). IsUpRefusal rules design edges i x) (sym (memory refl)) tt

module _ (rules : List StatedRule) (design : Design) (edges : List Edge) where
  pub first_down : (steps : List Step) (firsts : List ℕ) (ports : List (Option DownPort)) → steps ≡ steps_down (canonical_order design) edges
      → firsts ≡ first_shares (end_places rules design.nodes source_end edges) → ports ≡ replicate (length edges) None
      → IsDown rules design edges (record { steps = steps; firsts = firsts }) ports
  first_down steps firsts ports s f q = record {
    steps = s;
    firsts = f;
    long = ap length q ∙ length-replicate (length edges) None;
    known = nothing_known (down_pass rules design.nodes edges) edges firsts ports (length edges) q (down_shared rules design.nodes edges firsts f).long;
  }

  pub first_up : (steps : List Step) (firsts : List ℕ) (ports : List (Option UpPort)) → steps ≡ steps_up (canonical_order design) edges
      → firsts ≡ first_shares (end_places rules design.nodes sink_end edges) → ports ≡ replicate (length edges) None
      → IsUp rules design edges (record { steps = steps; firsts = firsts }) ports
  first_up steps firsts ports s f q = record {
    steps = s;
    firsts = f;
    long = ap length q ∙ length-replicate (length edges) None;
    known = nothing_known (up_pass rules design.nodes edges) edges firsts ports (length edges) q (up_shared rules design.nodes edges firsts f).long;
  }

-- a refusal of all, by the place of the refused edge
pub down_fault : (rules : List StatedRule) (design : Design) (edges : List Edge) (f : PassFault) (r : NegFault)
    → ((e : Edge) (n : ℕ) → f ≡ Refused e n → downs rules design edges ≡ Err (refusal e n))
    → ((e : Edge) (n : ℕ) → f ≡ Refused e n → r ≡ DownRefused (place_of rules design.nodes (source_end e)).node (place_of rules design.nodes (source_end e)).port n)
    → (f ≡ Memory → r ≡ NegMemory) → IsDownFault rules design edges r
down_fault rules design edges (Refused e n) r first at_ memory =
    subst (λ (x : NegFault). IsDownFault rules design edges x) (sym (at_ e n refl))
    (subst (λ (x : Result (List DownPort) Refusal). IsRefusalAt (λ edge. place_of rules design.nodes (source_end edge)) x (place_of rules design.nodes (source_end e)) n) (sym (first e n refl)) (refl, refl))
down_fault rules design edges Memory r first at_ memory = subst (λ (x : NegFault). IsDownFault rules design edges x) (sym (memory refl)) tt

pub up_fault : (rules : List StatedRule) (design : Design) (edges : List Edge) (f : PassFault) (r : NegFault)
    → ((e : Edge) (n : ℕ) → f ≡ Refused e n → ups rules design edges ≡ Err (refusal e n))
    → ((e : Edge) (n : ℕ) → f ≡ Refused e n → r ≡ UpRefused (place_of rules design.nodes (sink_end e)).node (place_of rules design.nodes (sink_end e)).port n)
    → (f ≡ Memory → r ≡ NegMemory) → IsUpFault rules design edges r
up_fault rules design edges (Refused e n) r first at_ memory =
    subst (λ (x : NegFault). IsUpFault rules design edges x) (sym (at_ e n refl))
    (subst (λ (x : Result (List UpPort) Refusal). IsRefusalAt (λ edge. place_of rules design.nodes (sink_end edge)) x (place_of rules design.nodes (sink_end e)) n) (sym (first e n refl)) (refl, refl))
up_fault rules design edges Memory r first at_ memory = subst (λ (x : NegFault). IsUpFault rules design edges x) (sym (memory refl)) tt

pub only_solution : (rules : List StatedRule) (design : Design) (edges : List Edge) → IsNegotiable design edges → (d : List DownPort) (u : List UpPort) → downs rules design edges ≡ Ok d → ups rules design edges ≡ Ok u
    → IsOnlySolution rules design edges (record { down = d; up = u })
only_solution rules design edges n d u a b = record { down = negotiation.down rules design edges n d a; up = negotiation.up rules design edges n u b }
