-- What a sound plan has: who gives to each edge and who takes from it, and how far a way goes.
use Rattle.std.specs.Prelude.{ℕ, ◌≡◌, ◌+◌, ◌<◌, ◌≤◌, List, ◌∷◌, length, Contains, AllPairs}
use Rattle.tl_edge.specs.declared.plan.Leaf.{Leaf}
use Rattle.tl_edge.specs.declared.plan.Plan.{Plan}
use Rattle.tl_edge.specs.Plans.{Giver, Taker, GivesTo, TakesFrom, IsWay}
use Rattle.tl_edge.specs.SoundPlans.{IsSound}

-- something is so of one alone
abbrev pub IsOne : {A : Type 0} → (A → Type 0) → Type 0
IsOne {A = A} P = (x : A) × P x × ((y : A) → P y → y ≡ x)

-- each edge has one giver and one taker, what gives or takes does so at an edge of the plan, and there are no more
-- leaves and ports than edges
pub record EndsLaw : Type 0 where
  pub giver : (plan : Plan) (edge : ℕ) → IsSound plan → edge < length plan.edges → IsOne (GivesTo plan edge)
  pub taker : (plan : Plan) (edge : ℕ) → IsSound plan → edge < length plan.edges → IsOne (TakesFrom plan edge)
  pub given : (plan : Plan) (edge : ℕ) (giver : Giver) → IsSound plan → GivesTo plan edge giver
      → edge < length plan.edges
  pub taken : (plan : Plan) (edge : ℕ) (taker : Taker) → IsSound plan → TakesFrom plan edge taker
      → edge < length plan.edges
  pub givers : (plan : Plan) → IsSound plan → length plan.leaves + length plan.sources ≤ length plan.edges
  pub takers : (plan : Plan) → IsSound plan → length plan.leaves + length plan.sinks ≤ length plan.edges
  pub leaves : (plan : Plan) → IsSound plan → length plan.leaves ≤ 1024
  pub sources : (plan : Plan) → IsSound plan → length plan.sources ≤ 1024
  pub sinks : (plan : Plan) → IsSound plan → length plan.sinks ≤ 1024

-- no edge stands twice on a way, so it has at most as many as the plan, and it never comes back to a leaf that it left
pub record WaysLaw : Type 0 where
  pub apart : (plan : Plan) (edge : ℕ) (others : List ℕ) → IsSound plan → IsWay plan edge others
      → AllPairs (λ one other. one ≡ other → ⊥) (edge ∷ others)
  pub short : (plan : Plan) (edge : ℕ) (others : List ℕ) → IsSound plan → edge < length plan.edges
      → IsWay plan edge others → length (edge ∷ others) ≤ length plan.edges
  pub left : (plan : Plan) (leaf : Leaf) (given taken : ℕ) (others : List ℕ) → IsSound plan
      → Contains plan.leaves leaf → Contains leaf.outs given → IsWay plan given others
      → Contains (given ∷ others) taken → Contains leaf.ins taken → ⊥
