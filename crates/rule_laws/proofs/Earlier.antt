-- The checks before the first that fails pass.
use Rattle.std.proofs.Common.{◌≡◌, ◌≢◌, ℕ, ◌<◌, ◌+◌, zero, suc, Bool, true, false, cond, List, [], ◌∷◌, ◌++◌, length, eqb, Option, Some, None, unwrap_or, leb, Result, Ok, Err, refl, sym, ap, arith, ◌∙◌}
use Rattle.std.specs.Prelude.{slice_get}
use Rattle.std.specs.Option.{option_map, option_or}
use Rattle.std.proofs.lemmas.Bool.{eq-eqb, leb-true}
use Rattle.tl_params.specs.declared.ports.DownPort.{DownPort}
use Rattle.tl_params.specs.declared.ports.UpPort.{UpPort}
use Rattle.dip_lists.specs.First.{Check, check, Failure, first, failure_of, first_failing, places}
use Rattle.dip_graph.specs.declared.design.Design.{Design}
use Rattle.dip_graph.specs.declared.edges.Edge.{Edge}
use Rattle.dip_graph.specs.Orders.{left_out}
use Rattle.dip_rule.specs.Stated.{StatedRule}
use Rattle.dip_stars.specs.Edges.{design_counts, unfilled, excess}
use Rattle.dip_negotiate.specs.Passes.{Refusal}
use Rattle.dip_negotiate.specs.Negotiation.{downs, ups}
use Rattle.dip_checks.specs.Checks.{unruled_nodes, turned_binds, edges_in, refusing, misfitting_nodes, ports_of, solution_of, edge_checks, fit_checks, port_checks, design_checks}

-- a check with another number than the first that fails has no failing subject
goes_on : (number : ℕ) (failing : List ℕ) (rest : Option Failure) (failure : Failure) → number ≢ failure.number → option_or (option_map (failure_of number) (first failing)) rest ≡ Some failure
    → (failing ≡ []) × (rest ≡ Some failure)
goes_on number [] rest failure n e = (refl, e)
goes_on number (subject ∷ subjects) rest failure n e = absurd (n (ap (λ (o : Option Failure). (unwrap_or o failure).number) e))

-- the checks 5 to 10 pass
pub record GraphPasses (rules : List StatedRule) (design : Design) : Type 0 where
  pub unruled : unruled_nodes rules design ≡ []
  pub turned : turned_binds design ≡ []
  pub acyclic : left_out design ≡ []
  pub filled : unfilled rules design.nodes (design_counts rules design) ≡ []
  pub few : excess (design_counts rules design) ≡ []

-- the checks from 12 on
abbrev pub from_twelve : List StatedRule → Design → List Edge → List Check
from_twelve rules design edges =
    check 12 (refusing (λ edge. edge.to) (ups rules design edges))
    ∷ edge_checks (solution_of rules design edges).down (solution_of rules design edges).up
    ++ fit_checks rules design.nodes edges (solution_of rules design edges).down (solution_of rules design edges).up

-- the checks 5 to 11 pass
pub record AllBefore (rules : List StatedRule) (design : Design) (failure : Failure) : Type 0 where
  pub graph : GraphPasses rules design
  pub down : refusing (λ edge. edge.from) (downs rules design (edges_in rules design)) ≡ []
  pub rest : first_failing (from_twelve rules design (edges_in rules design)) ≡ Some failure

-- a number up to one below that of the failure
low : (bound : ℕ) (failure : Failure) → bound < failure.number → (number : ℕ) → leb number bound ≡ true → number ≢ failure.number
low bound failure above number h e = let l = leb-true number bound h in omega arith

other : (own : ℕ) (failure : Failure) → failure.number ≡ own → (number : ℕ) → eqb number own ≡ false → number ≢ failure.number
other own failure is number h e = let q : eqb number own ≡ true = eq-eqb number own (e ∙ is) in absurd cc

-- what the failure of a check from 11 on says of those before it
pub before_eleven : (rules : List StatedRule) (design : Design) (failure : Failure) → first_failing (design_checks rules design) ≡ Some failure → 10 < failure.number
    → GraphPasses rules design × (first_failing (port_checks rules design (edges_in rules design)) ≡ Some failure)
unfolding design_checks
before_eleven rules design failure h above =
    let c5 = goes_on 5 _ _ failure (low 10 failure above 5 refl) h in
    let c6 = goes_on 6 _ _ failure (low 10 failure above 6 refl) c5.1 in
    let c7 = goes_on 7 _ _ failure (low 10 failure above 7 refl) c6.1 in
    let c8 = goes_on 8 _ _ failure (low 10 failure above 8 refl) c7.1 in
    let c9 = goes_on 9 _ _ failure (low 10 failure above 9 refl) c8.1 in
    let c10 = goes_on 10 _ _ failure (low 10 failure above 10 refl) c9.1 in
    (record { unruled = c5.0; turned = c6.0; acyclic = c7.0; filled = c9.0; few = c10.0 }, c10.1)

-- the same of a check from 12 on
pub before_twelve : (rules : List StatedRule) (design : Design) (failure : Failure) → first_failing (design_checks rules design) ≡ Some failure → 11 < failure.number → AllBefore rules design failure
before_twelve rules design failure h above =
    let g = before_eleven rules design failure h (omega arith) in
    let c11 = goes_on 11 _ _ failure (low 11 failure above 11 refl) g.1 in
    record { graph = g.0; down = c11.0; rest = c11.1 }

nothing : {Q : Type 0} (failure : Failure) → ◌≡◌ {A = Option Failure} None (Some failure) → Q
nothing failure e = absurd cc

-- a failure isn't one of the checks 13 to 18
pub not_later : (rules : List StatedRule) (design : Design) (edges : List Edge) (down : List DownPort) (up : List UpPort) (failure : Failure) → failure.number < 13
    → first_failing (edge_checks down up ++ fit_checks rules design.nodes edges down up) ≡ Some failure → ⊥
not_later rules design edges down up failure below h =
    let c13 = goes_on 13 _ _ failure (high 13 refl) h in
    let c14 = goes_on 14 _ _ failure (high 14 refl) c13.1 in
    let c15 = goes_on 15 _ _ failure (high 15 refl) c14.1 in
    let c16 = goes_on 16 _ _ failure (high 16 refl) c15.1 in
    let c17 = goes_on 17 _ _ failure (high 17 refl) c16.1 in
    let c18 = goes_on 18 _ _ failure (high 18 refl) c17.1 in
    nothing failure c18.1
  where
    high : (number : ℕ) → leb 13 number ≡ true → number ≢ failure.number
    high number h e = let l = leb-true 13 number h in omega arith

-- where check 12 has no failing subject it isn't the first that fails
pub not_twelve : (rules : List StatedRule) (design : Design) (failure : Failure) → AllBefore rules design failure → failure.number ≡ 12
    → refusing (λ edge. edge.to) (ups rules design (edges_in rules design)) ≡ [] → ⊥
not_twelve rules design failure b is none =
    not_later rules design (edges_in rules design) (solution_of rules design (edges_in rules design)).down (solution_of rules design (edges_in rules design)).up failure (omega arith)
    (ap (λ fs. option_or (option_map (failure_of 12) (first fs)) (first_failing (edge_checks (solution_of rules design (edges_in rules design)).down (solution_of rules design (edges_in rules design)).up
    ++ fit_checks rules design.nodes (edges_in rules design) (solution_of rules design (edges_in rules design)).down (solution_of rules design (edges_in rules design)).up))) (sym none) ∙ b.rest)

-- a failure of check 11 isn't one of the checks from 12 on
not_from_twelve : (rules : List StatedRule) (design : Design) (edges : List Edge) (failure : Failure) → failure.number ≡ 11 → first_failing (from_twelve rules design edges) ≡ Some failure → ⊥
not_from_twelve rules design edges failure is e =
    let c12 = goes_on 12 _ _ failure (other 11 failure is 12 refl) e in
    not_later rules design edges (solution_of rules design edges).down (solution_of rules design edges).up failure (below is) c12.1
  where
    below : failure.number ≡ 11 → failure.number < 13
    below is = omega arith

-- where the failure is one of check 11, its subject is the node of the refusal down
pub eleven : (rules : List StatedRule) (design : Design) (failure : Failure) → failure.number ≡ 11
    → first_failing (port_checks rules design (edges_in rules design)) ≡ Some failure → first (refusing (λ edge. edge.from) (downs rules design (edges_in rules design))) ≡ Some failure.subject
eleven rules design failure is h = at (refusing (λ edge. edge.from) (downs rules design (edges_in rules design))) h
  where
    at : (failing : List ℕ) → option_or (option_map (failure_of 11) (first failing)) (first_failing (from_twelve rules design (edges_in rules design))) ≡ Some failure
        → first failing ≡ Some failure.subject
    at [] e = absurd (not_from_twelve rules design (edges_in rules design) failure is e)
    at (subject ∷ subjects) e = ap (λ (o : Option Failure). Some (unwrap_or o failure).subject) e

-- where it is one of check 17, nothing is refused, and its subject is the first node that doesn't fit
pub seventeen : (rules : List StatedRule) (design : Design) (failure : Failure) → failure.number ≡ 17 → AllBefore rules design failure
    → (refusing (λ edge. edge.to) (ups rules design (edges_in rules design)) ≡ [])
    × (first (misfitting_nodes rules design.nodes (edges_in rules design) (solution_of rules design (edges_in rules design)).down (solution_of rules design (edges_in rules design)).up) ≡ Some failure.subject)
seventeen rules design failure is b =
    let c12 = goes_on 12 _ _ failure (other 17 failure is 12 refl) b.rest in
    let c13 = goes_on 13 _ _ failure (other 17 failure is 13 refl) c12.1 in
    let c14 = goes_on 14 _ _ failure (other 17 failure is 14 refl) c13.1 in
    let c15 = goes_on 15 _ _ failure (other 17 failure is 15 refl) c14.1 in
    let c16 = goes_on 16 _ _ failure (other 17 failure is 16 refl) c15.1 in
    (c12.0, last _ _ c16.1)
  where
    last : (failing heavy : List ℕ) → option_or (option_map (failure_of 17) (first failing)) (option_or (option_map (failure_of 18) (first heavy)) None) ≡ Some failure → first failing ≡ Some failure.subject
    last [] heavy e = nothing failure (goes_on 18 heavy None failure (other 17 failure is 18 refl) e).1
    last (subject ∷ subjects) heavy e = ap (λ (o : Option Failure). Some (unwrap_or o failure).subject) e

-- the first place of a list at which a test holds
pub record IsPlace {A : Type 0} (test : ℕ → A → Bool) (from : ℕ) (xs : List A) (y : ℕ) : Type 0 where
  pub behind : ℕ
  pub item : A
  pub number : y ≡ from + behind
  pub is : slice_get xs behind ≡ Some item
  pub passes : test y item ≡ true

pub first_place : {A : Type 0} (test : ℕ → A → Bool) (from : ℕ) (xs : List A) (y : ℕ) → first (places test from xs) ≡ Some y → IsPlace test from xs y
first_place test from [] y h = absurd cc
first_place test from (x ∷ xs) y h = at (test from x) refl h (λ i. first_place test (from + 1) xs y i)
  where
    later : IsPlace test (from + 1) xs y → IsPlace test from (x ∷ xs) y
    later f = let n = f.number in record { behind = suc f.behind; item = f.item; number = omega arith; is = f.is; passes = f.passes }

    at : (b : Bool) → test from x ≡ b → first (cond b (from ∷ places test (from + 1) xs) (places test (from + 1) xs)) ≡ Some y
        → (first (places test (from + 1) xs) ≡ Some y → IsPlace test (from + 1) xs y) → IsPlace test from (x ∷ xs) y
    at true q i f = let s : from ≡ y = cc in record { behind = 0; item = x; number = omega arith; is = refl; passes = ap (λ n. test n x) (sym s) ∙ q }
    at false q i f = later (f i)

pub agreed : {P : Type 0} (node : Edge → ℕ) (r : Result (List P) Refusal) → refusing node r ≡ [] → r ≡ Ok (ports_of r)
agreed node (Ok ports) h = refl
agreed node (Err refused) h = absurd cc

-- what fails at no place of a list fails at none of its items
pub none_pass : {A : Type 0} (test : ℕ → A → Bool) (from : ℕ) (xs : List A) (k : ℕ) (x : A) → places test from xs ≡ [] → slice_get xs k ≡ Some x → test (from + k) x ≡ false
none_pass test from [] k x h e = absurd cc
none_pass test from (y ∷ ys) k x h e = at (test from y) refl h k e (λ j l i. none_pass test (from + 1) ys j x l i)
  where
    at : (b : Bool) → test from y ≡ b → cond b (from ∷ places test (from + 1) ys) (places test (from + 1) ys) ≡ [] → (k : ℕ) → slice_get (y ∷ ys) k ≡ Some x
        → ((j : ℕ) → places test (from + 1) ys ≡ [] → slice_get ys j ≡ Some x → test (from + 1 + j) x ≡ false) → test (from + k) x ≡ false
    at true q h k e f = absurd cc
    at false q h zero e f = let s : y ≡ x = cc in let z : from + 0 ≡ from = omega arith in ap (λ n. test n x) z ∙ ap (λ i. test from i) (sym s) ∙ q
    at false q h (suc j) e f = let z : from + suc j ≡ from + 1 + j = omega arith in ap (λ n. test n x) z ∙ f j h e

pub item_at : {A : Type 0} (xs : List A) (k : ℕ) → k < length xs → (x : A) × (slice_get xs k ≡ Some x)
item_at [] k l = absurd (omega arith)
item_at (x ∷ xs) zero l = (x, refl)
item_at (x ∷ xs) (suc k) l = item_at xs k (omega arith)
