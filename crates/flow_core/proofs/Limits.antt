-- What an edge carries: numbers of so many bits, and nothing where there is no edge.
use Rattle.std.proofs.Common.{ℕ, ◌≡◌, ◌<◌, ◌≤◌, true, false, Some, None, slice_get, refl, sym, ap, arith, nat_lt}
use Rattle.std.specs.Prelude.{◌^◌, unwrap_or}
use Rattle.std.proofs.Math.Pow.{pow_mono}
use Rattle.std.proofs.lemmas.Bool.{lt-ltb}
use Rattle.std.proofs.lemmas.Bool.Decides.{nat_tests}
use Rattle.tl_edge.specs.declared.beat.ABeat.{ABeat}
use Rattle.tl_edge.specs.declared.beat.DBeat.{DBeat}
use Rattle.tl_edge.specs.declared.plan.PlanEdge.{PlanEdge}
use Rattle.tl_edge.specs.declared.plan.Plan.{Plan}
use Rattle.tl_edge.specs.Plans.{no_edge, edge_at}
use Rattle.flow_core.specs.Carried.{carries_a, carries_d}

pub has_many_bits : (value bits : ℕ) → value < 2 ^ 64 → 64 ≤ bits → true ≡ nat_lt value (2 ^ bits)
has_many_bits value bits small many =
    let more : 2 ^ 64 ≤ 2 ^ bits = pow_mono {i = 64} {j = bits} many in
    sym (lt-ltb value (2 ^ bits) (omega arith))

pub has_few_bits : (value bits other : ℕ) → other ≡ 2 ^ bits → nat_lt value other ≡ nat_lt value (2 ^ bits)
has_few_bits value bits other e = rw e refl

no_edge_carries_a : (beat : ABeat) → false ≡ carries_a no_edge beat
unfolding carries_a
no_edge_carries_a beat = grind (arith, nat_tests)

no_edge_carries_d : (beat : DBeat) → false ≡ carries_d no_edge beat
unfolding carries_d
no_edge_carries_d beat = grind (arith, nat_tests)

pub no_edge_here : (plan : Plan) (edge : ℕ) → slice_get plan.edges edge ≡ None → edge_at plan edge ≡ no_edge
no_edge_here plan edge e = ap (λ o. unwrap_or o no_edge) e

pub edge_here : (plan : Plan) (edge : ℕ) (on : PlanEdge) → slice_get plan.edges edge ≡ Some on → edge_at plan edge ≡ on
edge_here plan edge on e = ap (λ o. unwrap_or o no_edge) e

pub none_carries_a : (plan : Plan) (edge : ℕ) (beat : ABeat) → slice_get plan.edges edge ≡ None → false ≡ carries_a (edge_at plan edge) beat
none_carries_a plan edge beat e = rw (no_edge_here plan edge e) (no_edge_carries_a beat)

pub none_carries_d : (plan : Plan) (edge : ℕ) (beat : DBeat) → slice_get plan.edges edge ≡ None → false ≡ carries_d (edge_at plan edge) beat
none_carries_d plan edge beat e = rw (no_edge_here plan edge e) (no_edge_carries_d beat)

pub some_carries_a : (plan : Plan) (edge : ℕ) (on : PlanEdge) (beat : ABeat) → slice_get plan.edges edge ≡ Some on → carries_a on beat ≡ carries_a (edge_at plan edge) beat
some_carries_a plan edge on beat e = rw (edge_here plan edge on e) refl

pub some_carries_d : (plan : Plan) (edge : ℕ) (on : PlanEdge) (beat : DBeat) → slice_get plan.edges edge ≡ Some on → carries_d on beat ≡ carries_d (edge_at plan edge) beat
some_carries_d plan edge on beat e = rw (edge_here plan edge on e) refl
