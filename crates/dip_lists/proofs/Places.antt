-- The subjects at which a test fails.
use Rattle.std.proofs.Common.{◌≡◌, ℕ, zero, suc, ◌<◌, ◌≤◌, ◌+◌, ⊎_elim, List, [], ◌∷◌, Bool, true, false, cond, IsTrue, Option, Some, unwrap_or, All, AllPairs, refl, sym, ap, subst, arith}
use Rattle.std.specs.Prelude.{Contains, slice_get}
use Rattle.std.proofs.lemmas.List.Elements.{All-nil, All-cons, All-weaker, Contains-push, Contains-append_left, Contains-append_right}
use Rattle.std.proofs.lemmas.List.Kept.{AllPairs-cons}
use Rattle.dip_lists.specs.First.{places}
use Rattle.dip_lists.specs.PlacesLaw.{FailsAt, PlacesLaw}
use Rattle.dip_lists.proofs.Pairs.{nowhere, within_cases}

first_in : (x : ℕ) (xs : List ℕ) → Contains (x ∷ xs) x
first_in x xs = Contains-append_left (x ∷ []) xs x (Contains-push [] x)

later_in : (x y : ℕ) (xs : List ℕ) → Contains xs y → Contains (x ∷ xs) y
later_in x y xs h = Contains-append_right (x ∷ []) xs y h

-- behind a first item
behind_first : (fails : ℕ → ℕ → Bool) (start x : ℕ) (items : List ℕ) (subject : ℕ) → FailsAt fails (start + 1) items subject → FailsAt fails start (x ∷ items) subject
behind_first fails start x items subject h =
    record { place = suc h.place; item = h.item; is = h.is; counted = omega (arith, h.counted); failing = h.failing }

-- the places of the first item, where the test fails at it, and of the rest
Step : (ℕ → ℕ → Bool) → Bool → ℕ → List ℕ → List ℕ
Step fails b start items = cond b (start ∷ places fails (start + 1) items) (places fails (start + 1) items)

fails_step : (fails : ℕ → ℕ → Bool) (start x : ℕ) (items : List ℕ) (subject : ℕ) (b : Bool) → fails start x ≡ b
    → (Contains (places fails (start + 1) items) subject → FailsAt fails (start + 1) items subject) → Contains (Step fails b start items) subject → FailsAt fails start (x ∷ items) subject
unfolding Step
fails_step fails start x items subject true e rest h =
    ⊎_elim
    (λ here. record { place = zero; item = x; is = refl; counted = omega (arith, here); failing = subst (λ s. fails s x ≡ true) here e })
    (λ later. behind_first fails start x items subject (rest later))
    (within_cases start subject (places fails (start + 1) items) h)
fails_step fails start x items subject false e rest h = behind_first fails start x items subject (rest h)

fails_at : (fails : ℕ → ℕ → Bool) (start : ℕ) (items : List ℕ) (subject : ℕ) → Contains (places fails start items) subject → FailsAt fails start items subject
unfolding Step
fails_at fails start [] subject h = absurd (nowhere subject h)
fails_at fails start (x ∷ items) subject h =
    fails_step fails start x items subject (fails start x) refl (fails_at fails (start + 1) items subject) h

here_listed : (fails : ℕ → ℕ → Bool) (start : ℕ) (items : List ℕ) (b : Bool) → b ≡ true → Contains (Step fails b start items) start
unfolding Step
here_listed fails start items true e = first_in start (places fails (start + 1) items)
here_listed fails start items false e = absurd (cc)

later_listed : (fails : ℕ → ℕ → Bool) (start : ℕ) (items : List ℕ) (subject : ℕ) (b : Bool) → Contains (places fails (start + 1) items) subject → Contains (Step fails b start items) subject
unfolding Step
later_listed fails start items subject true h = later_in start subject (places fails (start + 1) items) h
later_listed fails start items subject false h = h

listed_step : (fails : ℕ → ℕ → Bool) (start x : ℕ) (items : List ℕ) (subject place item : ℕ) → slice_get (x ∷ items) place ≡ Some item → subject ≡ start + place → IsTrue (fails subject item)
    → (FailsAt fails (start + 1) items subject → Contains (places fails (start + 1) items) subject) → Contains (Step fails (fails start x) start items) subject
listed_step fails start x items subject zero item is counted failing rest =
    let same : item ≡ x = ap (λ (o : Option ℕ). unwrap_or o x) (sym is) in
    let first : subject ≡ start = omega arith in
    let fails_here : fails start x ≡ true = subst (λ i. fails start i ≡ true) same (subst (λ s. fails s item ≡ true) first failing) in
    subst (λ s. Contains (Step fails (fails start x) start items) s) (sym first) (here_listed fails start items (fails start x) fails_here)
listed_step fails start x items subject (suc place) item is counted failing rest =
    later_listed fails start items subject (fails start x) (rest (record { place = place; item = item; is = is; counted = omega arith; failing = failing }))

is_listed : (fails : ℕ → ℕ → Bool) (start : ℕ) (items : List ℕ) (subject : ℕ) → FailsAt fails start items subject → Contains (places fails start items) subject
unfolding Step
is_listed fails start [] subject h = let never = h.is in absurd (cc)
is_listed fails start (x ∷ items) subject h =
    listed_step fails start x items subject h.place h.item h.is h.counted h.failing (is_listed fails (start + 1) items subject)

-- at one failing place or none
at_a_place : (fails : Bool) (n : ℕ) (later : List ℕ) → All (λ m. n < m) later → All (λ m. n ≤ m) (cond fails (n ∷ later) later)
at_a_place true n later h = All-cons (λ m. n ≤ m) n later (omega arith) (All-weaker (λ m. n < m) (λ m. n ≤ m) (λ m above. omega arith) later h)
at_a_place false n later h = All-weaker (λ m. n < m) (λ m. n ≤ m) (λ m above. omega arith) later h

from_start : {A : Type 0} (fails : ℕ → A → Bool) (n : ℕ) (xs : List A) → All (λ m. n ≤ m) (places fails n xs)
from_start fails n [] = All-nil (λ m. n ≤ m)
from_start fails n (x ∷ xs) =
    at_a_place (fails n x) n (places fails (n + 1) xs)
    (All-weaker (λ m. n + 1 ≤ m) (λ m. n < m) (λ m above. omega arith) (places fails (n + 1) xs) (from_start fails (n + 1) xs))

rise_behind : (fails : Bool) (n : ℕ) (later : List ℕ) → All (λ m. n < m) later → AllPairs (λ a b. a < b) later → AllPairs (λ a b. a < b) (cond fails (n ∷ later) later)
rise_behind true n later h r = AllPairs-cons (λ a b. a < b) n later h r
rise_behind false n later h r = r

pub places_rise : {A : Type 0} (fails : ℕ → A → Bool) (n : ℕ) (xs : List A) → AllPairs (λ a b. a < b) (places fails n xs)
places_rise fails n [] = λ i j d before within. absurd (omega arith)
places_rise fails n (x ∷ xs) =
    rise_behind (fails n x) n (places fails (n + 1) xs)
    (All-weaker (λ m. n + 1 ≤ m) (λ m. n < m) (λ m above. omega arith) (places fails (n + 1) xs) (from_start fails (n + 1) xs))
    (places_rise fails (n + 1) xs)

pub places_law : PlacesLaw
places_law = record { failing = λ fails start items subject. (fails_at fails start items subject, is_listed fails start items subject); rising = places_rise }
