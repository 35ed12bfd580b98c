-- The faults of star bindings as failures of the checks 8 to 10.
use Rattle.std.proofs.Common.{◌≡◌, ℕ, List, [], ◌∷◌, Option, Some, None, ap, ◌∙◌, inl, inr}
use Rattle.std.specs.Option.{option_map, option_or}
use Rattle.dip_lists.specs.First.{check, Failure, failure_of, first_failing}
use Rattle.dip_graph.specs.declared.design.Design.{Design}
use Rattle.dip_rule.specs.Stated.{StatedRule}
use Rattle.dip_stars.specs.declared.stars.StarFault.TheVariants.{StarsWait, Arity, TooManyEdges}
use Rattle.dip_stars.specs.Edges.{design_counts, unfilled, excess, IsStarFault, AreResolved}
use Rattle.dip_checks.specs.Checks.{star_checks}

abbrev found : ℕ → Option ℕ → Option Failure
found number subject = option_map (failure_of number) subject

pub bind_waits : (rules : List StatedRule) (design : Design) (bind : ℕ) → IsStarFault rules design.nodes (design_counts rules design) (StarsWait bind)
    → first_failing (star_checks rules design) ≡ Some (failure_of 8 bind)
bind_waits rules design bind h = elim h [
  | inl e ↦ ap (λ o. option_or (found 8 o) (first_failing (check 9 (unfilled rules design.nodes (design_counts rules design)) ∷ check 10 (excess (design_counts rules design)) ∷ []))) e
  | inr f ↦ absurd (elim f.1 as (λ _. ⊥) [ inl z ↦ z | inr z ↦ z.1 ])
]

pub node_fails : (rules : List StatedRule) (design : Design) (node : ℕ) → IsStarFault rules design.nodes (design_counts rules design) (Arity node)
    → first_failing (star_checks rules design) ≡ Some (failure_of 9 node)
node_fails rules design node h = elim h [
  | inl z ↦ absurd z
  | inr f ↦ elim f.1 [
    | inl e ↦
        ap (λ o. option_or (found 8 o) (first_failing (check 9 (unfilled rules design.nodes (design_counts rules design)) ∷ check 10 (excess (design_counts rules design)) ∷ []))) f.0
        ∙ ap (λ o. option_or (found 9 o) (first_failing (check 10 (excess (design_counts rules design)) ∷ []))) e
    | inr z ↦ absurd z.1
  ]
]

pub too_many : (rules : List StatedRule) (design : Design) (count : ℕ) → IsStarFault rules design.nodes (design_counts rules design) (TooManyEdges count)
    → first_failing (star_checks rules design) ≡ Some (failure_of 10 count)
too_many rules design count h = elim h [
  | inl z ↦ absurd z
  | inr f ↦ elim f.1 [
    | inl z ↦ absurd z
    | inr e ↦
        ap (λ o. option_or (found 8 o) (first_failing (check 9 (unfilled rules design.nodes (design_counts rules design)) ∷ check 10 (excess (design_counts rules design)) ∷ []))) f.0
        ∙ ap (λ o. option_or (found 9 o) (first_failing (check 10 (excess (design_counts rules design)) ∷ []))) e.0
        ∙ ap (λ o. option_or (found 10 o) None) e.1
  ]
]

pub all_resolved : (rules : List StatedRule) (design : Design) → AreResolved rules design.nodes (design_counts rules design) → first_failing (star_checks rules design) ≡ None
all_resolved rules design r =
    ap (λ o. option_or (found 8 o) (first_failing (check 9 (unfilled rules design.nodes (design_counts rules design)) ∷ check 10 (excess (design_counts rules design)) ∷ []))) r.known
    ∙ ap (λ o. option_or (found 9 o) (first_failing (check 10 (excess (design_counts rules design)) ∷ []))) r.filled
    ∙ ap (λ o. option_or (found 10 o) None) r.few

pub ruleset failures = (bind_waits, node_fails, too_many)
