-- The refusals of rules as failures of the checks 11 and 12.
use Rattle.std.proofs.Common.{◌≡◌, ℕ, List, [], ◌∷◌, Option, Some, None, Result, Ok, Err, refl, sym, ap, ◌∙◌, inl, inr}
use Rattle.std.specs.Prelude.{IsOk}
use Rattle.std.specs.Option.{option_map, option_or}
use Rattle.dip_lists.specs.First.{check, Failure, failure_of, first, first_failing}
use Rattle.tl_params.specs.declared.ports.DownPort.{DownPort}
use Rattle.tl_params.specs.declared.ports.UpPort.{UpPort}
use Rattle.dip_graph.specs.declared.design.Design.{Design}
use Rattle.dip_graph.specs.declared.edges.Edge.{Edge}
use Rattle.dip_rule.specs.Stated.{StatedRule}
use Rattle.dip_negotiate.specs.declared.steps.End.{End}
use Rattle.dip_negotiate.specs.declared.solution.NegFault.TheVariants.{DownRefused, UpRefused}
use Rattle.dip_negotiate.specs.Passes.{Refusal}
use Rattle.dip_negotiate.specs.Places.{source_end, sink_end}
use Rattle.dip_negotiate.specs.Negotiation.{downs, ups, place_of, IsRefusalAt, IsNegFault}
use Rattle.dip_checks.specs.Checks.{refusing, rule_checks}

abbrev found : ℕ → Option ℕ → Option Failure
found number subject = option_map (failure_of number) subject

-- the node of a refusal, where its place is at the node
names : {P : Type 0} (place : Edge → End) (node_of : Edge → ℕ) (is : (edge : Edge) → (place edge).node ≡ node_of edge) (result : Result (List P) Refusal) (node port number : ℕ)
    → IsRefusalAt place result (record { node = node; port = port }) number → first (refusing node_of result) ≡ Some node
names place node_of is (Ok ports) node port number h = absurd h
names place node_of is (Err refused) node port number h = ap Some (sym (is refused.edge) ∙ ap (λ (e : End). e.node) h.0)

passes : {P : Type 0} (node_of : Edge → ℕ) (result : Result (List P) Refusal) → IsOk result → first (refusing node_of result) ≡ None
passes node_of (Ok ports) h = refl
passes node_of (Err refused) h = absurd cc

pub down_refused : (rules : List StatedRule) (design : Design) (edges : List Edge) (node port number : ℕ) → IsNegFault rules design edges (DownRefused node port number)
    → first_failing (rule_checks rules design edges) ≡ Some (failure_of 11 node)
down_refused rules design edges node port number h = elim h [
  | inl e ↦ ap (λ o. option_or (found 11 o) (first_failing (check 12 (refusing (λ edge. edge.to) (ups rules design edges)) ∷ [])))
      (names (λ edge. place_of rules design.nodes (source_end edge)) (λ edge. edge.from) (λ edge. refl) (downs rules design edges) node port number e)
  | inr z ↦ absurd z.1
]

pub up_refused : (rules : List StatedRule) (design : Design) (edges : List Edge) (node port number : ℕ) → IsNegFault rules design edges (UpRefused node port number)
    → first_failing (rule_checks rules design edges) ≡ Some (failure_of 12 node)
up_refused rules design edges node port number h = elim h [
  | inl z ↦ absurd z
  | inr e ↦
      ap (λ o. option_or (found 11 o) (first_failing (check 12 (refusing (λ edge. edge.to) (ups rules design edges)) ∷ []))) (passes (λ edge. edge.from) (downs rules design edges) e.0)
      ∙ ap (λ o. option_or (found 12 o) None)
      (names (λ edge. place_of rules design.nodes (sink_end edge)) (λ edge. edge.to) (λ edge. refl) (ups rules design edges) node port number e.1)
]

pub none_refused : (rules : List StatedRule) (design : Design) (edges : List Edge) (down : List DownPort) (up : List UpPort) → downs rules design edges ≡ Ok down → ups rules design edges ≡ Ok up
    → first_failing (rule_checks rules design edges) ≡ None
none_refused rules design edges down up d u =
    ap (λ r. option_or (found 11 (first (refusing (λ edge. edge.from) r))) (first_failing (check 12 (refusing (λ edge. edge.to) (ups rules design edges)) ∷ []))) d
    ∙ ap (λ r. option_or (found 12 (first (refusing (λ edge. edge.to) r))) None) u
