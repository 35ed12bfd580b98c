-- Numbers in rising order.
use Rattle.std.proofs.Common.{◌≡◌, ℕ, zero, suc, ◌<◌, ◌⊎◌, inl, inr, ⊎_elim, Bool, true, false, cond, eqb, List, [], ◌∷◌, ◌++◌, refl, sym, ap, subst, arith, rules}
use Rattle.std.specs.Prelude.{All, AllPairs, Contains, ◌≤◌, nat_lt, nat_eq}
use Rattle.std.proofs.lemmas.Bool.Decides.{nat_tests}
use Rattle.std.proofs.lemmas.List.Elements.{All-head, All-tail, All-cons, All-contains, All-contains_itself, Contains-append_left, Contains-append_right, Contains-push}
use Rattle.std.proofs.lemmas.List.Kept.{AllPairs-cons, AllPairs-from_increasing, Contains-dedup_nat, Contains-from_dedup}
use Rattle.std.proofs.lemmas.List.Sorted.{Contains-permutation, IsPermutation-sym}
use Rattle.std.proofs.lemmas.Map.Keys.{IsStrictlyIncreasing-dedup}
use Rattle.std.specs.List.{dedup}
use Rattle.std.specs.List.Sorted.{IsPermutation, IsSorted}
use Rattle.std.specs.Ordering.{nat_cmp}
use Rattle.dip_lists.proofs.Pairs.{nowhere, within_cases, behind, rest_pairs}
use Rattle.sim_ports.specs.Prepared.{AreRising}
use Rattle.sim_drive.specs.Preparing.{RisingLaw, rising, with_one}

here : (x : ℕ) (xs : List ℕ) → Contains (x ∷ xs) x
here x xs = Contains-append_left (x ∷ []) xs x (Contains-push [] x)

there : (x y : ℕ) (xs : List ℕ) → Contains xs y → Contains (x ∷ xs) y
there x y xs h = Contains-append_right (x ∷ []) xs y h

-- ---- one more number

-- what is below a number, equal to it, or above it
pub record IsPlaced (number next : ℕ) (others : List ℕ) (P : List ℕ → Type 0) : Type 0 where
  pub below : number < next → P (number ∷ next ∷ others)
  pub same : number ≡ next → P (next ∷ others)
  pub above : next < number → P (next ∷ with_one number others)

placed : (number next : ℕ) (others : List ℕ) (P : List ℕ → Type 0) → IsPlaced number next others P → P (with_one number (next ∷ others))
placed number next others P h = at (nat_lt number next) (nat_eq number next) refl refl
  where
    at : (b c : Bool) → nat_lt number next ≡ b → nat_eq number next ≡ c
        → P (cond b (number ∷ next ∷ others) (cond c (next ∷ others) (next ∷ with_one number others)))
    at true c e f = h.below (grind (arith, nat_tests, e))
    at false true e f = h.same (grind (arith, nat_tests, f))
    at false false e f = h.above (grind (arith, nat_tests, e, f))

with_all : (P : ℕ → Type 0) (number : ℕ) (xs : List ℕ) → P number → All P xs → All P (with_one number xs)
with_all P number [] p all = All-cons P number [] p all
with_all P number (next ∷ others) p all = placed number next others (λ ys. All P ys) (record {
  below = λ lt. All-cons P number (next ∷ others) p all;
  same = λ e. all;
  above = λ lt. All-cons P next (with_one number others) (All-head P next others all) (with_all P number others p (All-tail P next others all));
})

with_has : (number y : ℕ) (xs : List ℕ) → (number ≡ y) ⊎ Contains xs y → Contains (with_one number xs) y
with_has number y [] h =
    ⊎_elim (λ e. subst (λ z. Contains (number ∷ []) z) e (here number [])) (λ none. absurd (nowhere y none)) h
with_has number y (next ∷ others) h = placed number next others (λ ys. Contains ys y) (record {
  below = λ lt. ⊎_elim (λ e. subst (λ z. Contains (number ∷ next ∷ others) z) e (here number (next ∷ others))) (λ in_rest. there number y (next ∷ others) in_rest) h;
  same = λ e. ⊎_elim (λ f. subst (λ z. Contains (next ∷ others) z) (cc) (here next others)) (λ in_rest. in_rest) h;
  above = λ lt. ⊎_elim (λ e. there next y (with_one number others) (with_has number y others (inl e)))
      (λ in_rest. ⊎_elim (λ e. subst (λ z. Contains (next ∷ with_one number others) z) e (here next (with_one number others)))
      (λ later. there next y (with_one number others) (with_has number y others (inr later))) (within_cases next y others in_rest)) h;
})

with_rises : (number : ℕ) (xs : List ℕ) → AreRising xs → AreRising (with_one number xs)
with_rises number [] up = AllPairs-cons (λ x y. x < y) number [] (search rules) up
with_rises number (next ∷ others) up = placed number next others AreRising (record {
  below = λ lt. AllPairs-cons (λ x y. x < y) number (next ∷ others)
      (All-cons (λ y. number < y) next others lt (further number next others lt (behind (λ x y. x < y) next others up))) up;
  same = λ e. up;
  above = λ lt. AllPairs-cons (λ x y. x < y) next (with_one number others)
      (with_all (λ y. next < y) number others lt (behind (λ x y. x < y) next others up))
      (with_rises number others (rest_pairs (λ x y. x < y) next others up));
})
  where
    further : (low high : ℕ) (xs : List ℕ) → low < high → All (λ y. high < y) xs → All (λ y. low < y) xs
    further low high xs lt all k d within = let above : high < _ = all k d within in omega arith

-- ---- all numbers

pub rises : (numbers : List ℕ) → AreRising (rising numbers)
rises [] = none
  where
    none : AreRising []
    none i j d before within = absurd (omega arith)
rises (number ∷ numbers) = with_rises number (rising numbers) (rises numbers)

-- what all have, the numbers in rising order have
all_kept : (P : ℕ → Type 0) (numbers : List ℕ) → All P numbers → All P (rising numbers)
all_kept P [] all = all
all_kept P (number ∷ numbers) all = with_all P number (rising numbers) (All-head P number numbers all) (all_kept P numbers (All-tail P number numbers all))

pub kept : (numbers : List ℕ) (y : ℕ) → Contains numbers y → Contains (rising numbers) y
kept [] y h = h
kept (number ∷ numbers) y h =
    with_has number y (rising numbers) (⊎_elim (λ e. inl e) (λ later. inr (kept numbers y later)) (within_cases number y numbers h))

pub none_new : (numbers : List ℕ) (y : ℕ) → Contains (rising numbers) y → Contains numbers y
none_new numbers y h = All-contains (Contains numbers) (rising numbers) y (all_kept (Contains numbers) numbers (All-contains_itself numbers)) h

-- ---- no other list

least : (x y : ℕ) (xs : List ℕ) → AreRising (x ∷ xs) → Contains (x ∷ xs) y → x ≤ y
least x y xs up h = ⊎_elim (λ (e : x ≡ y). omega arith)
    (λ later. let above : x < y = All-contains (λ z. x < z) xs y (behind (λ a b. a < b) x xs up) later in omega arith)
    (within_cases x y xs h)

-- a number above the least is among the others
among_others : (x y : ℕ) (xs : List ℕ) → x < y → Contains (x ∷ xs) y → Contains xs y
among_others x y xs lt h = ⊎_elim (λ (e : x ≡ y). absurd (omega arith)) (λ later. later) (within_cases x y xs h)

-- two lists that rise and have the same numbers are one
pub one_list : (xs ys : List ℕ) → AreRising xs → AreRising ys → ((n : ℕ) → Contains xs n → Contains ys n) → ((n : ℕ) → Contains ys n → Contains xs n) → xs ≡ ys
one_list [] [] up high to from = refl
one_list [] (y ∷ ys) up high to from = absurd (nowhere y (from y (here y ys)))
one_list (x ∷ xs) [] up high to from = absurd (nowhere x (to x (here x xs)))
one_list (x ∷ xs) (y ∷ ys) up high to from =
    let low : y ≤ x = least y x ys high (to x (here x xs)) in
    let over : x ≤ y = least x y xs up (from y (here y ys)) in
    let same : x ≡ y = omega arith in
    let rest : xs ≡ ys = one_list xs ys (rest_pairs (λ a b. a < b) x xs up) (rest_pairs (λ a b. a < b) y ys high)
    (λ n h. let above : x < n = All-contains (λ z. x < z) xs n (behind (λ a b. a < b) x xs up) h in
    among_others y n ys (omega arith) (to n (there x n xs h)))
    (λ n h. let above : y < n = All-contains (λ z. y < z) ys n (behind (λ a b. a < b) y ys high) h in
    among_others x n xs (omega arith) (from n (there y n ys h))) in
    cc

pub law : RisingLaw
law = record {
  same = λ numbers number. (none_new numbers number, kept numbers number);
  rise = rises;
  only = λ numbers others up same. one_list others (rising numbers) up (rises numbers)
      (λ n h. kept numbers n ((same n).0 h)) (λ n h. (same n).1 (none_new numbers n h));
}

-- ---- sorted, and doubles dropped

pub sorted_once : (numbers sorted once : List ℕ) → IsPermutation numbers sorted → IsSorted nat_cmp sorted → once ≡ dedup eqb sorted → once ≡ rising numbers
sorted_once numbers sorted once moved up is =
    one_list once (rising numbers)
    (rw is (AllPairs-from_increasing (dedup eqb sorted) (IsStrictlyIncreasing-dedup sorted up)))
    (rises numbers)
    (λ n h. kept numbers n (Contains-permutation sorted numbers n (IsPermutation-sym numbers sorted moved) (Contains-from_dedup eqb sorted n (rw is at h))))
    (λ n h. rw is (Contains-dedup_nat sorted n (Contains-permutation numbers sorted n moved (none_new numbers n h))))
