-- A sound plan has few ports and leaves, and each leaf few inputs and outputs.
use Rattle.std.proofs.Common.{◌≡◌, ◌≢◌, ◌≤◌, ◌<◌, ◌^◌, ℕ, List, length, get_or, Some, sym, ap, ◌∙◌, subst, arith, slice_get, All}
use Rattle.std.specs.Prelude.{AllPairs}
use Rattle.std.proofs.lemmas.Bool.Decides.{Decides-eqb}
use Rattle.std.proofs.lemmas.Map.Made.{IsDistinct-from_AllPairs}
use Rattle.std.proofs.lemmas.Option.{slice_get-get_or, get_or_from_slice_get, slice_get_within}
use Rattle.tl_edge.specs.declared.plan.Leaf.{Leaf}
use Rattle.tl_edge.specs.declared.plan.Plan.{Plan}
use Rattle.tl_edge.specs.Plans.{GivesTo, TakesFrom}
use Rattle.tl_edge.specs.Plans.Giver.{Out}
use Rattle.tl_edge.specs.Plans.Taker.{In}
use Rattle.tl_edge.specs.SoundPlans.{IsSound}
use Rattle.flow_choice.specs.Numbered.{IsNumbered, NumberedLaw}
use Rattle.tl_edge.proofs.Ways.{ends_law}
use Rattle.tl_edge.proofs.Once.{few_distinct}

-- what stands at two places of a list that has no number twice
apart : (xs : List ℕ) → ((p q e : ℕ) → slice_get xs p ≡ Some e → slice_get xs q ≡ Some e → p ≡ q) → AllPairs (λ x y. x ≢ y) xs
apart xs once i j d less within e =
    let at_i : slice_get xs i ≡ Some (get_or xs i d) = slice_get-get_or xs i d (omega arith) in
    let at_j : slice_get xs j ≡ Some (get_or xs j d) = slice_get-get_or xs j d within in
    let same : i ≡ j = once i j (get_or xs i d) at_i (at_j ∙ ap Some (sym e)) in
    omega arith

few : (xs : List ℕ) (bound : ℕ) → ((p q e : ℕ) → slice_get xs p ≡ Some e → slice_get xs q ≡ Some e → p ≡ q) → ((p e : ℕ) → slice_get xs p ≡ Some e → e < bound) → length xs ≤ bound
few xs bound once below =
    few_distinct xs bound (IsDistinct-from_AllPairs Decides-eqb xs (apart xs once)) (λ p d within. below p (get_or xs p d) (slice_get-get_or xs p d within))

inputs_sound : (plan : Plan) (l : ℕ) (at : Leaf) → IsSound plan → slice_get plan.leaves l ≡ Some at → length at.ins ≤ 1024
inputs_sound plan l at sound is =
    let all : length at.ins ≤ length plan.edges = few at.ins (length plan.edges)
    (λ p q e x y.
    let t : TakesFrom plan e (In l p) = (at, is, x) in
    let u : TakesFrom plan e (In l q) = (at, is, y) in
    let one = ends_law.taker plan e sound (ends_law.taken plan e (In l p) sound t) in
    let same : In l p ≡ In l q = one.2 (In l p) t ∙ sym (one.2 (In l q) u) in
    cc)
    (λ p e x. ends_law.taken plan e (In l p) sound (at, is, x)) in
    let some = sound.few_edges in
    omega arith

outputs_sound : (plan : Plan) (l : ℕ) (at : Leaf) → IsSound plan → slice_get plan.leaves l ≡ Some at → length at.outs ≤ 1024
outputs_sound plan l at sound is =
    let all : length at.outs ≤ length plan.edges = few at.outs (length plan.edges)
    (λ p q e x y.
    let t : GivesTo plan e (Out l p) = (at, is, x) in
    let u : GivesTo plan e (Out l q) = (at, is, y) in
    let one = ends_law.giver plan e sound (ends_law.given plan e (Out l p) sound t) in
    let same : Out l p ≡ Out l q = one.2 (Out l p) t ∙ sym (one.2 (Out l q) u) in
    cc)
    (λ p e x. ends_law.given plan e (Out l p) sound (at, is, x)) in
    let some = sound.few_edges in
    omega arith

each_at : (P : Leaf → Type 0) (leaves : List Leaf) → ((l : ℕ) (at : Leaf) → slice_get leaves l ≡ Some at → P at) → All P leaves
each_at P leaves h l d within = h l (get_or leaves l d) (slice_get-get_or leaves l d within)

pub numbered_law : NumberedLaw
numbered_law plan sound =
    let few : 1024 < 2 ^ 32 = omega arith in
    let sources = ends_law.sources plan sound in
    let sinks = ends_law.sinks plan sound in
    let leaves = ends_law.leaves plan sound in
    record {
      sources = omega arith;
      sinks = omega arith;
      leaves = omega arith;
      inputs = each_at (λ leaf. length leaf.ins < 2 ^ 32) plan.leaves (λ l at is. let n = inputs_sound plan l at sound is in omega arith);
      outputs = each_at (λ leaf. length leaf.outs < 2 ^ 32) plan.leaves (λ l at is. let n = outputs_sound plan l at sound is in omega arith);
    }

pub few_sources : (plan : Plan) → IsNumbered plan → length plan.sources < 2 ^ 32
few_sources plan numbered = numbered.sources

pub few_sinks : (plan : Plan) → IsNumbered plan → length plan.sinks < 2 ^ 32
few_sinks plan numbered = numbered.sinks

pub few_leaves : (plan : Plan) → IsNumbered plan → length plan.leaves < 2 ^ 32
few_leaves plan numbered = numbered.leaves

at_item : (P : Leaf → Type 0) (leaves : List Leaf) (l : ℕ) (at : Leaf) → All P leaves → slice_get leaves l ≡ Some at → P at
at_item P leaves l at all is = subst P (get_or_from_slice_get leaves l at at is) (all l at (slice_get_within leaves l at is))

pub few_inputs : (plan : Plan) (l : ℕ) (at : Leaf) → IsNumbered plan → slice_get plan.leaves l ≡ Some at → length at.ins < 2 ^ 32
few_inputs plan l at numbered is = at_item (λ leaf. length leaf.ins < 2 ^ 32) plan.leaves l at numbered.inputs is

pub few_outputs : (plan : Plan) (l : ℕ) (at : Leaf) → IsNumbered plan → slice_get plan.leaves l ≡ Some at → length at.outs < 2 ^ 32
few_outputs plan l at numbered is = at_item (λ leaf. length leaf.outs < 2 ^ 32) plan.leaves l at numbered.outputs is
