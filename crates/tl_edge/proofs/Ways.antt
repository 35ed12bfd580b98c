-- How the edges and leaves of a plan stand: each edge once, and no way back.
use Rattle.std.proofs.Common.{ℕ, zero, suc, ◌+◌, ◌<◌, ◌≤◌, ◌≡◌, inl, inr, List, [], ◌∷◌, ◌++◌, length, Bool, true, false, ◌&&◌, ◌==◌, All, AllPairs, Some, get_or, slice_get, unwrap_or, sym, ap, ◌∙◌, subst, arith, eqb}
use Rattle.std.specs.Prelude.{Contains}
use Rattle.std.specs.List.{AllByRecursion, IsDistinct}
use Rattle.std.proofs.lemmas.Bool.{cases_eq, ne_eqb}
use Rattle.std.proofs.lemmas.List.Elements.{All-contains, All-cons, All-nil, Contains-push}
use Rattle.std.proofs.lemmas.List.Kept.{AllPairs-cons}
use Rattle.std.proofs.lemmas.Option.{get_or_from_slice_get, slice_get_within, slice_get-get_or}
use Rattle.std.proofs.lemmas.List.{get_or_default}
use Rattle.dip_sets.proofs.Lists.{pairs_none}
use Rattle.tl_params.specs.declared.ops.Template.{Template}
use Rattle.tl_params.specs.declared.ops.Template.TheVariants.{Buffer, Width, Fragmenter, Shrinker, Xbar}
use Rattle.tl_edge.specs.declared.plan.Leaf.{Leaf}
use Rattle.tl_edge.specs.declared.plan.Plan.{Plan}
use Rattle.tl_edge.specs.Plans.{times, given_edges, taken_edges, Giver, Out, Source, Taker, In, Sink, GivesTo, TakesFrom, LeadsTo, IsWay, NoneReturns}
use Rattle.tl_edge.specs.SoundPlans.{IsSound, HasShape}
use Rattle.tl_edge.specs.PlanLaws.{IsOne, EndsLaw, WaysLaw}
use Rattle.tl_edge.proofs.Once.{AtLeaf, AtPort, one_end, few_ends, few_distinct, leaf_listed, port_listed}

-- ---- numbers below a bound that each stand once

abbrev pub stand_once : ℕ → List ℕ → Bool
stand_once zero numbers = true
stand_once (suc more) numbers = (times more numbers == 1) && stand_once more numbers

pub each_once : (bound : ℕ) (numbers : List ℕ) → stand_once bound numbers ≡ true → (number : ℕ) → number < bound → times number numbers ≡ 1
each_once zero numbers all number below = absurd (omega arith)
each_once (suc more) numbers all number below = elim (cases_eq number more) [
  | inl here ↦ let t : (times more numbers == 1) ≡ true = grind arith in let e : times more numbers ≡ 1 = grind arith in subst (λ (n : ℕ). times n numbers ≡ 1) (sym here) e
  | inr other ↦ let rest : stand_once more numbers ≡ true = grind arith in each_once more numbers rest number (omega arith)
]

-- ---- a plan whose edges rise along each way

-- the numbers of a leaf's in edges are below those of its out edges
abbrev pub Rises : Leaf → Type 0
Rises leaf = (above below : ℕ) → Contains leaf.ins above → Contains leaf.outs below → above < below

pub item_has : {A : Type 0} (P : A → Type 0) (xs : List A) (k : ℕ) (x : A) → All P xs → slice_get xs k ≡ Some x → P x
item_has P xs k x all is = subst P (get_or_from_slice_get xs k x x is) (all k x (slice_get_within xs k x is))

pub same_item : {A : Type 0} (xs : List A) (k : ℕ) (x y : A) → slice_get xs k ≡ Some x → slice_get xs k ≡ Some y → x ≡ y
same_item xs k x y is too = ap (λ o. unwrap_or o x) (sym is ∙ too)

-- each edge on a way has a greater number than the one from which it starts
rising : (plan : Plan) → All Rises plan.leaves → (edge : ℕ) (others : List ℕ) → IsWay plan edge others → (later : ℕ) → Contains others later → edge < later
rising plan all edge [] way later (k, below, is) = absurd (omega arith)
rising plan all edge (next ∷ others) way later (zero, below, is) =
    let step : edge < next = item_has Rises plan.leaves way.0.leaf way.0.through all way.0.is edge next way.0.taken way.0.given in
    let here : next ≡ later = is in omega arith
rising plan all edge (next ∷ others) way later (suc k, below, is) =
    let step : edge < next = item_has Rises plan.leaves way.0.leaf way.0.through all way.0.is edge next way.0.taken way.0.given in
    let rest : next < later = rising plan all next others way.1 later (k, omega arith, is) in
    omega arith

pub no_way_back : (plan : Plan) → All Rises plan.leaves → NoneReturns plan
no_way_back plan all edge others way back = let less : edge < edge = rising plan all edge others way edge back in omega arith

-- ---- each edge has one giver and one taker

pub giver : (plan : Plan) (edge : ℕ) → IsSound plan → edge < length plan.edges → IsOne (GivesTo plan edge)
giver plan edge sound within = elim (one_end (λ (leaf : Leaf). leaf.outs) plan.leaves plan.sources edge (sound.given_once edge within)) [
  | inl at ↦ (Out at.leaf at.place, at.is, at_leaf at)
  | inr at ↦ (Source at.port, at.is, at_port at)
]
  where
    at_leaf : (at : AtLeaf (λ (leaf : Leaf). leaf.outs) plan.leaves plan.sources edge) (other : Giver) → GivesTo plan edge other → other ≡ Out at.leaf at.place
    at_leaf at (Out l q) g = let same = at.one l q g in cc
    at_leaf at (Source port) g = absurd (at.none port g)

    at_port : (at : AtPort (λ (leaf : Leaf). leaf.outs) plan.leaves plan.sources edge) (other : Giver) → GivesTo plan edge other → other ≡ Source at.port
    at_port at (Out l q) g = absurd (at.none l q g)
    at_port at (Source port) g = ap (λ (n : ℕ). Source n) (at.one port g)

pub taker : (plan : Plan) (edge : ℕ) → IsSound plan → edge < length plan.edges → IsOne (TakesFrom plan edge)
taker plan edge sound within = elim (one_end (λ (leaf : Leaf). leaf.ins) plan.leaves plan.sinks edge (sound.taken_once edge within)) [
  | inl at ↦ (In at.leaf at.place, at.is, at_leaf at)
  | inr at ↦ (Sink at.port, at.is, at_port at)
]
  where
    at_leaf : (at : AtLeaf (λ (leaf : Leaf). leaf.ins) plan.leaves plan.sinks edge) (other : Taker) → TakesFrom plan edge other → other ≡ In at.leaf at.place
    at_leaf at (In l q) g = let same = at.one l q g in cc
    at_leaf at (Sink port) g = absurd (at.none port g)

    at_port : (at : AtPort (λ (leaf : Leaf). leaf.ins) plan.leaves plan.sinks edge) (other : Taker) → TakesFrom plan edge other → other ≡ Sink at.port
    at_port at (In l q) g = absurd (at.none l q g)
    at_port at (Sink port) g = ap (λ (n : ℕ). Sink n) (at.one port g)

given_within : (plan : Plan) (edge : ℕ) (giver : Giver) → All (λ e. e < length plan.edges) (given_edges plan) → GivesTo plan edge giver → edge < length plan.edges
given_within plan edge (Out leaf place) given g =
    All-contains (λ e. e < length plan.edges) (given_edges plan) edge given (leaf_listed (λ (leaf : Leaf). leaf.outs) plan.leaves plan.sources edge leaf place g)
given_within plan edge (Source port) given g =
    All-contains (λ e. e < length plan.edges) (given_edges plan) edge given (port_listed (λ (leaf : Leaf). leaf.outs) plan.leaves plan.sources edge port g)

taken_within : (plan : Plan) (edge : ℕ) (taker : Taker) → IsSound plan → TakesFrom plan edge taker → edge < length plan.edges
taken_within plan edge (In leaf place) sound g =
    All-contains (λ e. e < length plan.edges) (taken_edges plan) edge sound.taken (leaf_listed (λ (leaf : Leaf). leaf.ins) plan.leaves plan.sinks edge leaf place g)
taken_within plan edge (Sink port) sound g =
    All-contains (λ e. e < length plan.edges) (taken_edges plan) edge sound.taken (port_listed (λ (leaf : Leaf). leaf.ins) plan.leaves plan.sinks edge port g)

some_outs : (template : Template) (ins outs : List ℕ) → HasShape template ins outs → 1 ≤ length outs
some_outs Buffer ins outs h = omega (arith, h.1)
some_outs Width ins outs h = omega (arith, h.1)
some_outs Fragmenter ins outs h = omega (arith, h.1)
some_outs Shrinker ins outs h = omega (arith, h.1)
some_outs Xbar ins outs h = omega (arith, h.1)

some_ins : (template : Template) (ins outs : List ℕ) → HasShape template ins outs → 1 ≤ length ins
some_ins Buffer ins outs h = omega (arith, h.0)
some_ins Width ins outs h = omega (arith, h.0)
some_ins Fragmenter ins outs h = omega (arith, h.0)
some_ins Shrinker ins outs h = omega (arith, h.0)
some_ins Xbar ins outs h = omega (arith, h.0)

few_givers : (plan : Plan) → IsSound plan → length plan.leaves + length plan.sources ≤ length plan.edges
few_givers plan sound =
    few_ends (λ (leaf : Leaf). leaf.outs) plan.leaves plan.sources (length plan.edges)
    (λ k leaf below. some_outs (get_or plan.leaves k leaf).template (get_or plan.leaves k leaf).ins (get_or plan.leaves k leaf).outs (sound.shaped k leaf below)) sound.given sound.given_once

few_takers : (plan : Plan) → IsSound plan → length plan.leaves + length plan.sinks ≤ length plan.edges
few_takers plan sound =
    few_ends (λ (leaf : Leaf). leaf.ins) plan.leaves plan.sinks (length plan.edges)
    (λ k leaf below. some_ins (get_or plan.leaves k leaf).template (get_or plan.leaves k leaf).ins (get_or plan.leaves k leaf).outs (sound.shaped k leaf below)) sound.taken sound.taken_once

pub ends_law : EndsLaw
ends_law = record {
  giver = giver;
  taker = taker;
  given = λ plan edge giver sound. given_within plan edge giver sound.given;
  taken = taken_within;
  givers = few_givers;
  takers = few_takers;
  leaves = λ plan sound. omega (arith, few_givers plan sound, sound.few_edges);
  sources = λ plan sound. omega (arith, few_givers plan sound, sound.few_edges);
  sinks = λ plan sound. omega (arith, few_takers plan sound, sound.few_edges);
}

-- ---- ways

apart_from : (edge : ℕ) (others : List ℕ) → (Contains others edge → ⊥) → All (λ other. edge ≡ other → ⊥) others
apart_from edge others none k d below same = none (k, below, get_or_default others k edge d below ∙ sym same)

pairs_apart : (plan : Plan) → NoneReturns plan → (edge : ℕ) (others : List ℕ) → IsWay plan edge others → AllPairs (λ one other. one ≡ other → ⊥) (edge ∷ others)
pairs_apart plan none edge [] way =
    AllPairs-cons (λ one other. one ≡ other → ⊥) edge [] (apart_from edge [] (none edge [] way)) (pairs_none (λ one other. one ≡ other → ⊥))
pairs_apart plan none edge (next ∷ rest) way =
    AllPairs-cons (λ one other. one ≡ other → ⊥) edge (next ∷ rest) (apart_from edge (next ∷ rest) (none edge (next ∷ rest) way)) (pairs_apart plan none next rest way.1)

never : (x : ℕ) (xs : List ℕ) → (Contains xs x → ⊥) → AllByRecursion (λ y. eqb x y ≡ false) xs
never x [] none = tt
never x (y ∷ ys) none = (ne_eqb x y (λ same. none (0, omega arith, sym same)), never x ys (λ at. none (suc at.0, omega (arith, at.1), at.2)))

way_distinct : (plan : Plan) → NoneReturns plan → (edge : ℕ) (others : List ℕ) → IsWay plan edge others → IsDistinct eqb (edge ∷ others)
unfolding IsDistinct
way_distinct plan none edge [] way = (tt, tt)
way_distinct plan none edge (next ∷ others) way = (never edge (next ∷ others) (none edge (next ∷ others) way), way_distinct plan none next others way.1)

-- what follows an edge is an edge of the plan
pub follower_within : (plan : Plan) (edge next : ℕ) → All (λ e. e < length plan.edges) (given_edges plan) → LeadsTo plan edge next → next < length plan.edges
follower_within plan edge next given f =
    let at : slice_get f.through.outs f.given.0 ≡ Some next =
    slice_get-get_or f.through.outs f.given.0 next f.given.1 ∙ ap (λ (n : ℕ). Some n) f.given.2 in
    given_within plan next (Out f.leaf f.given.0) given (f.through, f.is, at)

way_within : (plan : Plan) (edge : ℕ) (others : List ℕ) → All (λ e. e < length plan.edges) (given_edges plan) → edge < length plan.edges → IsWay plan edge others → All (λ e. e < length plan.edges) (edge ∷ others)
way_within plan edge [] given within way = All-cons (λ e. e < length plan.edges) edge [] within (All-nil (λ e. e < length plan.edges))
way_within plan edge (next ∷ others) given within way =
    All-cons (λ e. e < length plan.edges) edge (next ∷ others) within (way_within plan next others given (follower_within plan edge next given way.0) way.1)

short_way : (plan : Plan) (edge : ℕ) (others : List ℕ) → NoneReturns plan → All (λ e. e < length plan.edges) (given_edges plan) → edge < length plan.edges → IsWay plan edge others
    → length (edge ∷ others) ≤ length plan.edges
short_way plan edge others none given within way =
    few_distinct (edge ∷ others) (length plan.edges) (way_distinct plan none edge others way) (way_within plan edge others given within way)

-- a way as far as an edge on it, and one step more
one_more : (plan : Plan) (first : ℕ) (others : List ℕ) (back next : ℕ) → IsWay plan first others → Contains (first ∷ others) back → LeadsTo plan back next → (between : List ℕ) × IsWay plan first (between ++ next ∷ [])
one_more plan first others back next way (zero, below, is) step = ([], (subst (λ (e : ℕ). LeadsTo plan e next) (sym is) step, tt))
one_more plan first [] back next way (suc k, below, is) step = absurd (omega arith)
one_more plan first (second ∷ others) back next way (suc k, below, is) step =
    let rest = one_more plan second others back next way.1 (k, omega arith, is) step in
    (second ∷ rest.0, (way.0, rest.1))

never_back : (plan : Plan) (leaf : Leaf) (given taken : ℕ) (others : List ℕ) → IsSound plan → Contains plan.leaves leaf → Contains leaf.outs given → IsWay plan given others
    → Contains (given ∷ others) taken → Contains leaf.ins taken → ⊥
never_back plan leaf given taken others sound listed out way on into =
    let is : slice_get plan.leaves listed.0 ≡ Some leaf = slice_get-get_or plan.leaves listed.0 leaf listed.1 ∙ ap (λ (l : Leaf). Some l) listed.2 in
    let step : LeadsTo plan taken given = record { leaf = listed.0; through = leaf; is = is; taken = into; given = out } in
    let round = one_more plan given others taken given way on step in
    sound.acyclic given (round.0 ++ given ∷ []) round.1 (Contains-push round.0 given)

pub ways_law : WaysLaw
ways_law = record {
  apart = λ plan edge others sound. pairs_apart plan sound.acyclic edge others;
  short = λ plan edge others sound. short_way plan edge others sound.acyclic sound.given;
  left = never_back;
}

-- ---- what is to be shown of each edge may be taken of those that follow it

descend : (plan : Plan) (P : ℕ → Type 0) → ((edge : ℕ) → ((next : ℕ) → LeadsTo plan edge next → P next) → P edge) → (more edge : ℕ)
    → ((others : List ℕ) → IsWay plan edge others → length others < more) → P edge
descend plan P step zero edge few = let n : length {A = ℕ} [] < 0 = few [] tt in absurd (omega arith)
descend plan P step (suc more) edge few =
    step edge (λ next f. descend plan P step more next (λ others way. let n : length (next ∷ others) < suc more = few (next ∷ others) (f, way) in omega arith))

pub edge_by_edge : (plan : Plan) (P : ℕ → Type 0) → NoneReturns plan → All (λ e. e < length plan.edges) (given_edges plan) → ((edge : ℕ) → ((next : ℕ) → LeadsTo plan edge next → P next) → P edge) → (edge : ℕ) → P edge
edge_by_edge plan P none given step edge = descend plan P step (suc (length plan.edges)) edge few
  where
    few : (others : List ℕ) → IsWay plan edge others → length others < suc (length plan.edges)
    few [] way = omega arith
    few (next ∷ others) way = omega (arith, short_way plan next others none given (follower_within plan edge next given way.0) way.1)
