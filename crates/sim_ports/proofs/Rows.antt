-- So many addresses in a row, among some that rise.
use Rattle.std.proofs.Common.{ℕ, zero, suc, ◌≡◌, ◌+◌, ◌-◌, ◌<◌, ◌≤◌, List, length, get_or, Bool, true, false, nat_eq, IsTrue, Result, Ok, Err, MatchResult, inl, inr, refl, ap, sym, subst, ◌∙◌, arith}
use Rattle.std.specs.Ordering.{nat_cmp}
use Rattle.std.specs.List.Sorted.{IsBinarySearchResult}
use Rattle.std.proofs.lemmas.Bool.{cases_order}
use Rattle.std.proofs.lemmas.Grind.{get_or_default_zero}
use Rattle.std.proofs.lemmas.List.Sorted.{searched}
use Rattle.sim_ports.specs.Nexts.{HasRow}
use Rattle.sim_ports.specs.Prepared.{AreRising}

-- as many places behind an address stands one that is as much higher at least
pub rise : (xs : List ℕ) → AreRising xs → (i k j : ℕ) → j ≡ i + k → j < length xs → get_or xs i 0 + k ≤ get_or xs j 0
rise xs h i zero j e l =
    let same : j ≡ i = omega (arith, e) in
    omega (arith, ap (λ n. get_or xs n 0) same)
rise xs h i (suc k) j e l =
    let before = rise xs h i k (i + k) refl (omega (arith, e, l)) in
    let more = h (i + k) j 0 (omega (arith, e)) l in
    omega (arith, before, more)

pub level : (xs : List ℕ) → AreRising xs → (i j : ℕ) → i ≤ j → j < length xs → get_or xs i 0 ≤ get_or xs j 0
level xs h i j le l = omega (arith, rise xs h i (j - i) j (omega (arith, le)) l)

-- where the last one stands so many places behind the first one, there is the whole row
pub row_there : (xs : List ℕ) (address count place behind : ℕ) → AreRising xs → get_or xs place 0 ≡ address
    → place + behind < length xs → get_or xs (place + behind) 0 ≡ address + behind → count ≡ behind + 1
    → HasRow xs address count
row_there xs address count place behind h first within last all number few =
    let there : place + number < length xs = omega (arith, within, all, few) in
    let up = rise xs h place number (place + number) refl there in
    let on = rise xs h (place + number) (behind - number) (place + behind) (omega (arith, all, few)) within in
    let is : get_or xs (place + number) 0 ≡ address + number = omega (arith, up, on, first, last, all, few) in
    (place + number, there, get_or_default_zero xs (place + number) (address + number) there ∙ is)

-- and in a row each one stands as many places behind the first one
pub record StandsAt (xs : List ℕ) (address place : ℕ) : Type 0 where
  pub within : place < length xs
  pub is : get_or xs place 0 ≡ address

pub row_on : (xs : List ℕ) (address count place number : ℕ) → AreRising xs → StandsAt xs address place
    → HasRow xs address count → number < count → StandsAt xs (address + number) (place + number)
row_on xs address count place zero h first row few =
    record {
      within = omega (arith, first.within);
      is = ap (λ n. get_or xs n 0) (omega arith) ∙ first.is ∙ omega arith;
    }
row_on xs address count place (suc number) h first row few =
    let before = row_on xs address count place number h first row (omega (arith, few)) in
    let there = row (suc number) few in
    let is : get_or xs there.0 0 ≡ address + suc number = sym (get_or_default_zero xs there.0 (address + suc number) there.1) ∙ there.2 in
    elim (cases_order there.0 (place + suc number)) [
      | inl same ↦ record {
        within = omega (arith, same, there.1);
        is = ap (λ n. get_or xs n 0) (sym same) ∙ is;
      }
      | inr other ↦ elim other [
        | inl low ↦
            let up = level xs h there.0 (place + number) (omega (arith, low)) before.within in
            absurd (omega (arith, up, before.is, is))
        | inr high ↦
            let up = rise xs h (place + number) (there.0 - (place + number)) there.0 (omega (arith, high)) there.1 in
            absurd (omega (arith, up, before.is, is, high))
      ]
    ]

-- ---- the search for the first one

pub found : (xs : List ℕ) (address place : ℕ) (r : Result ℕ ℕ) → IsBinarySearchResult (λ y. nat_cmp y address) xs r
    → AreRising xs → r ≡ Ok place → StandsAt xs address place
found xs address place r h up e =
    let there = subst (λ (o : Result ℕ ℕ). MatchResult o (λ i. (i < length xs) × (get_or xs i 0 ≡ address)) (λ i. (i ≤ length xs) × ((k : ℕ) → k < i → get_or xs k 0 < address) × ((k : ℕ) → i ≤ k → k < length xs → address < get_or xs k 0))) e
    (searched xs address r h (level xs up)) in
    record { within = there.0; is = there.1 }

-- where it isn't found there is no row
pub none_found : (xs : List ℕ) (address count : ℕ) (r : Result ℕ ℕ) → IsBinarySearchResult (λ y. nat_cmp y address) xs r
    → AreRising xs → 1 ≤ count → ((place : ℕ) → r ≡ Ok place → ⊥) → HasRow xs address count → ⊥
none_found xs address count (Ok place) h up some not_ok row = not_ok place refl
none_found xs address count (Err place) h up some not_ok row =
    let missed = searched xs address (Err place) h (level xs up) in
    let there = row 0 some in
    let is : get_or xs there.0 0 ≡ address + 0 = sym (get_or_default_zero xs there.0 (address + 0) there.1) ∙ there.2 in
    elim (cases_order there.0 place) [
      | inl same ↦ absurd (omega (arith, is, missed.2 there.0 (omega (arith, same)) there.1))
      | inr other ↦ elim other [
        | inl low ↦ absurd (omega (arith, is, missed.1 there.0 low))
        | inr high ↦ absurd (omega (arith, is, missed.2 there.0 (omega (arith, high)) there.1))
      ]
    ]

equal : (n m : ℕ) → n ≡ m → IsTrue (nat_eq n m)
equal n m h = go (nat_eq n m) refl
  where
    go : (b : Bool) → nat_eq n m ≡ b → nat_eq n m ≡ true
    go true e = e
    go false e = absurd (grind (arith, e, h))

-- ---- what the test answers

pub row_tested : (xs : List ℕ) (address count place behind last : ℕ) → AreRising xs → StandsAt xs address place
    → 1 ≤ count → behind ≡ count - 1 → place + (count - 1) < length xs → last ≡ get_or xs (place + (count - 1)) last
    → (IsTrue (nat_eq last (address + behind)) → HasRow xs address count)
    × (HasRow xs address count → IsTrue (nat_eq last (address + behind)))
row_tested xs address count place behind last h first some e within at =
    let is : last ≡ get_or xs (place + (count - 1)) 0 = at ∙ get_or_default_zero xs (place + (count - 1)) last within in
    let all : count ≡ (count - 1) + 1 = omega (arith, some) in (
      λ t. row_there xs address count place (count - 1) h first.is within (sym is ∙ grind (arith, t, e)) all,
      λ row. equal last (address + behind) (omega (arith, is, e, (row_on xs address count place (count - 1) h first row (omega (arith, some))).is)),
    )

-- none stands so many places behind the first one
pub row_short : (xs : List ℕ) (address count place behind : ℕ) → AreRising xs → StandsAt xs address place
    → count ≡ behind + 1 → length xs ≤ place + behind → HasRow xs address count → ⊥
row_short xs address count place behind h first all past row =
    omega (arith, past, (row_on xs address count place behind h first row (omega (arith, all))).within)
