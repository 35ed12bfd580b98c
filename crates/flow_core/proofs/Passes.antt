-- What a move of a leaf is in a network of buffers and crossbars.
use Rattle.std.proofs.Common.{ℕ, ◌≡◌, false, Option, Some, None, is_some, refl, sym, ap, ◌∙◌}
use Rattle.std.specs.Prelude.{slice_get, unwrap_or}
use Rattle.std.specs.Option.{option_map, option_and_then}
use Rattle.std.proofs.lemmas.Option.{slice_get-map}
use Rattle.tl_params.specs.Owners.{owner}
use Rattle.tl_edge.specs.declared.plan.Leaf.{Leaf}
use Rattle.tl_edge.specs.declared.plan.PlanEdge.{PlanEdge}
use Rattle.tl_edge.specs.declared.plan.Plan.{Plan}
use Rattle.tl_edge.specs.Plans.{edge_at, outs_of, no_edge}
use Rattle.flow_core.specs.Crossing.{goes_to}
use Rattle.flow_core.specs.Built.{bar_of}

-- ---- where a crossbar sends an address

slaves_at : (plan : Plan) (leaf : Leaf) (output : ℕ)
    → slice_get (bar_of plan leaf).slaves output ≡ option_map (λ n. (edge_at plan n).slaves) (slice_get leaf.outs output)
slaves_at plan leaf output =
    slice_get-map (λ (edge : PlanEdge). edge.slaves) (outs_of plan leaf) output
    ∙ ap (option_map (λ (edge : PlanEdge). edge.slaves)) (slice_get-map (edge_at plan) leaf.outs output)
    ∙ mapped (slice_get leaf.outs output)
  where
    mapped : (o : Option ℕ) → option_map (λ (edge : PlanEdge). edge.slaves) (option_map (edge_at plan) o) ≡ option_map (λ n. (edge_at plan n).slaves) o
    mapped None = refl
    mapped (Some n) = refl

goes_by : (plan : Plan) (leaf : Leaf) (output address : ℕ) (o : Option ℕ) → slice_get leaf.outs output ≡ o
    → is_some (option_and_then (λ slaves. owner slaves address) (option_map (λ n. (edge_at plan n).slaves) o)) ≡ goes_to (bar_of plan leaf) output address
goes_by plan leaf output address o e =
    ap (λ o. is_some (option_and_then (λ slaves. owner slaves address) (option_map (λ n. (edge_at plan n).slaves) o))) (sym e)
    ∙ ap (λ s. is_some (option_and_then (λ slaves. owner slaves address) s)) (sym (slaves_at plan leaf output))

pub goes_none : (plan : Plan) (leaf : Leaf) (output address : ℕ) → slice_get leaf.outs output ≡ None
    → false ≡ goes_to (bar_of plan leaf) output address
goes_none plan leaf output address e = goes_by plan leaf output address None e

pub goes_nowhere : (plan : Plan) (leaf : Leaf) (output address edge : ℕ) → slice_get leaf.outs output ≡ Some edge
    → slice_get plan.edges edge ≡ None → false ≡ goes_to (bar_of plan leaf) output address
goes_nowhere plan leaf output address edge e f =
    ap (λ o. is_some (owner (unwrap_or o no_edge).slaves address)) (sym f) ∙ goes_by plan leaf output address (Some edge) e

pub goes_some : (plan : Plan) (leaf : Leaf) (output address edge : ℕ) (on : PlanEdge) → slice_get leaf.outs output ≡ Some edge
    → slice_get plan.edges edge ≡ Some on → is_some (owner on.slaves address) ≡ goes_to (bar_of plan leaf) output address
goes_some plan leaf output address edge on e f =
    ap (λ o. is_some (owner (unwrap_or o no_edge).slaves address)) (sym f) ∙ goes_by plan leaf output address (Some edge) e

pub ruleset goes = (goes_none, goes_nowhere, goes_some)
