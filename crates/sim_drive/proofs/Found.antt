-- Where a request goes, as a search through the sink ports finds it.
use Rattle.std.proofs.Common.{◌≡◌, ℕ, ◌+◌, ◌<◌, ◌≤◌, ◌⊎◌, ⊎_elim, Bool, true, false, cond, ltb, List, [], ◌∷◌, get_or, length, Option, Some, None, slice_get, refl, ap, subst, sym, ◌∙◌, arith, rules}
use Rattle.std.specs.Prelude.{position}
use Rattle.std.specs.List.{position_or_len}
use Rattle.std.specs.Option.{option_and_then}
use Rattle.std.proofs.lemmas.Bool.{ltb-true, lt-ltb, le-ltb}
use Rattle.std.proofs.lemmas.List.Sums.{position_or_len_is}
use Rattle.std.proofs.lemmas.Option.{cond_some, option_and_then_some, same_Some}
use Rattle.tl_params.specs.declared.ports.Slave.{Slave}
use Rattle.tl_params.specs.Owners.{owner}
use Rattle.tl_edge.specs.declared.plan.Plan.{Plan}
use Rattle.tl_edge.specs.declared.plan.PlanPort.{PlanPort}
use Rattle.tl_edge.specs.Plans.{edge_at}
use Rattle.sim_ports.specs.declared.stimulus.StimRequest.{StimRequest}
use Rattle.sim_drive.specs.Preparing.{has_slave, sink_asked, sink_with_slave, sink_owning}

-- none of the first items of a list passes
pub record NoneOf {X : Type 0} (p : X → Bool) (xs : List X) (count : ℕ) : Type 0 where
  pub none : (k : ℕ) (d : X) → k < count → p (get_or xs k d) ≡ false

pub found_at : {X : Type 0} (p : X → Bool) (xs : List X) (i : ℕ) (x : X) → NoneOf p xs i → i < length xs → x ≡ get_or xs i x → p x ≡ true → position p xs ≡ Some i
found_at p xs i x before within here passes =
    let place : position_or_len p xs ≡ i = position_or_len_is p xs i x (omega arith) (λ k lt. before.none k x lt) (λ _. subst (λ y. p y ≡ true) here passes) in
    subst (λ n. cond (ltb n (length xs)) (Some n) None ≡ Some i) (sym place) (ap (λ b. cond b (Some i) None) (lt-ltb i (length xs) within))

pub found_nowhere : {X : Type 0} (p : X → Bool) (xs : List X) → NoneOf p xs (length xs) → position p xs ≡ None
found_nowhere p [] none = refl
found_nowhere p (x ∷ xs) none = at (length (x ∷ xs)) refl
  where
    at : (n : ℕ) → n ≡ length (x ∷ xs) → position p (x ∷ xs) ≡ None
    at n e =
        let place : position_or_len p (x ∷ xs) ≡ n = position_or_len_is p (x ∷ xs) n x (omega arith) (λ k lt. none.none k x (omega arith)) (λ lt. absurd (omega arith)) in
        subst (λ m. cond (ltb m (length (x ∷ xs))) (Some m) None ≡ None) (sym place) (ap (λ b. cond b (Some n) None) (le-ltb n (length (x ∷ xs)) (omega arith)))

-- what is found stands in the list
found_within : {X : Type 0} (p : X → Bool) (xs : List X) (i : ℕ) → position p xs ≡ Some i → i < length xs
found_within p xs i e =
    let both = cond_some (ltb (position_or_len p xs) (length xs)) (position_or_len p xs) i e in
    let place : position_or_len p xs ≡ i = both.1 in
    subst (λ n. n < length xs) place (ltb-true _ _ both.0)

-- a request goes to a sink port that there is
pub goes_within : (plan : Plan) (asked : StimRequest) (sink : ℕ) → sink_asked plan asked ≡ Some sink → sink < length plan.sinks
goes_within plan asked sink e =
    option_and_then_some (λ (at : PlanPort). sink_owning plan.sinks (edge_at plan at.edge).slaves asked.request.address) (slice_get plan.sources asked.port) sink e
    (λ at _ f. owned_within (edge_at plan at.edge).slaves f)
  where
    owned_within : (slaves : List Slave) → sink_owning plan.sinks slaves asked.request.address ≡ Some sink → sink < length plan.sinks
    owned_within slaves f =
        option_and_then_some (λ place. option_and_then (sink_with_slave plan.sinks) (slice_get slaves place)) (owner slaves asked.request.address) sink f
        (λ place _ g. option_and_then_some (sink_with_slave plan.sinks) (slice_get slaves place) sink g (λ slave _ h. found_within (has_slave slave) plan.sinks sink h))
