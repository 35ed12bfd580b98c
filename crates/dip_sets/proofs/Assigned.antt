-- Ranges of ids for counts: rounded up, in order, and apart.
use Rattle.std.proofs.Common.{ℕ, zero, suc, ◌≡◌, ◌+◌, ◌-◌, ◌*◌, ◌/◌, ◌%◌, ◌^◌, ◌<◌, ◌≤◌, ◌⊎◌, inl, inr, max, List, [], ◌∷◌, length, get_or, map, Bool, true, false, cond, nat_le, Result, IfOk, Ok, Err, All, AllPairs, refl, subst, ap, sym, ◌∙◌, arith, pow-suc, pow_pos, zero-add}
use Rattle.std.specs.List.{AllZip}
use Rattle.std.specs.Int.{IsNextPowerOfTwo}
use Rattle.std.proofs.Math.Nat.{pow-le-pow_right, mul-mod_left, add-mul}
use Rattle.std.proofs.lemmas.Nat.{pow-add}
use Rattle.std.proofs.lemmas.List.Elements.{All-cons}
use Rattle.std.proofs.lemmas.Bool.{cases_lt, leb-true, leb-false}
use Rattle.std.proofs.lemmas.Bool.Decides.{nat_tests}
use Rattle.dip_sets.specs.declared.ids.IdRange.{IdRange}
use Rattle.dip_sets.specs.Ids.{DisjointIds}
use Rattle.dip_sets.specs.Assignments.{BeginsAtMultiple, power_from, rounded, goes_first, sum_before, range_at, ranges_from, IsRounded, HasRoom}

pub if_ok_same : {T E : Type 0} (r : Result T E) (y : T) (P : T → Type 0) → IfOk r (λ x. x ≡ y) → P y → IfOk r P
if_ok_same (Ok x) y P e p = rw e p
if_ok_same (Err e) y P h p = tt

-- ---- the least power of two that isn't below a count

double : (k : ℕ) → 2 ^ k * 2 ≡ 2 ^ suc k
double k = omega (arith, pow-suc 2 k)

half : (k : ℕ) → 2 ^ suc k / 2 ≡ 2 ^ k
half k = omega (arith, pow-suc 2 k)

at_most_power : (n : ℕ) → n ≤ 2 ^ n
at_most_power zero = omega arith
at_most_power (suc n) = omega (arith, at_most_power n, pow-suc 2 n, pow_pos n)

power_from_is : (more k last n : ℕ) → k + more ≡ last → 2 ^ k / 2 < max 1 n → n ≤ 2 ^ last → IsNextPowerOfTwo n (power_from more (2 ^ k) n)
power_from_is zero k last n there small enough = let same : last ≡ k = omega arith in ((k, refl), rw same at enough, small)
power_from_is (suc more) k last n there small enough = elim (nat_le n (2 ^ k)) as (λ b. nat_le n (2 ^ k) ≡ b → IsNextPowerOfTwo n (cond b (2 ^ k) (power_from more (2 ^ k * 2) n))) [
  | true ↦ λ e. ((k, refl), leb-true n (2 ^ k) e, small)
  | false ↦ λ e. let above = leb-false n (2 ^ k) e in rw (double k) (power_from_is more (suc k) last n (omega arith) (rw (half k) (omega arith)) enough)
] refl

pub rounded_is : (n : ℕ) → IsNextPowerOfTwo n (rounded n)
unfolding rounded
rounded_is n = power_from_is n 0 n n (omega arith) (omega arith) (at_most_power n)

exponents : (n a b : ℕ) → n ≤ 2 ^ a → 2 ^ b / 2 < max 1 n → b ≤ a
exponents n a b enough least = elim (cases_lt a b) [
  | inl lt ↦ let more : 2 ^ suc a ≤ 2 ^ b = pow-le-pow_right {n = 2} (omega arith) {i = suc a} {j = b} (omega arith) in absurd (omega (arith, pow-suc 2 a, pow_pos a))
  | inr ge ↦ ge
]

pub next_power_unique : (n p q : ℕ) → IsNextPowerOfTwo n p → IsNextPowerOfTwo n q → p ≡ q
next_power_unique n p q ((a, e), enough, least) ((b, f), enough2, least2) =
    let up : b ≤ a = exponents n a b (rw (← e) enough) (rw (← f) least2) in
    let down : a ≤ b = exponents n b a (rw (← f) enough2) (rw (← e) least) in
    e ∙ ap (λ k. 2 ^ k) (omega arith) ∙ sym f

pub rounded_small : (n p : ℕ) → IsNextPowerOfTwo n p → n ≤ 1024 → p ≤ 1024
rounded_small n p ((k, e), enough, least) h =
    elim (cases_lt k 11) [
      | inl lt ↦ let at_most : 2 ^ k ≤ 2 ^ 10 = pow-le-pow_right {n = 2} (omega arith) {i = k} {j = 10} (omega arith) in omega arith
      | inr ge ↦ let at_least : 2 ^ 11 ≤ 2 ^ k = pow-le-pow_right {n = 2} (omega arith) {i = 11} {j = k} ge in omega arith
    ]

-- ---- each range has room for its count

pub ranges_rounded : (counts all : List ℕ) (place : ℕ) → AllZip IsRounded counts (ranges_from place all (map rounded counts))
ranges_rounded [] all place = tt
ranges_rounded (count ∷ counts) all place =
    let size : sum_before (rounded count) place 0 all + rounded count - sum_before (rounded count) place 0 all ≡ rounded count = omega arith in
    (rw size (rounded_is count), ranges_rounded counts all (place + 1))

pub ranges_room : (counts all : List ℕ) (place : ℕ) → AllZip HasRoom counts (ranges_from place all (map rounded counts))
ranges_room [] all place = tt
ranges_room (count ∷ counts) all place = (omega (arith, (rounded_is count).1), ranges_room counts all (place + 1))

-- ---- the ranges are apart

-- the other one, at its place, goes before the own one, at its place
IsBefore : ℕ → ℕ → ℕ → ℕ → Type 0
IsBefore other at own place = (own < other) ⊎ ((own ≡ other) × (at < place))

first_from : (own place other at : ℕ) → IsBefore other at own place → goes_first own place other at ≡ true
unfolding IsBefore
first_from own place other at h = grind (arith, nat_tests)

first_to : (own place other at : ℕ) → goes_first own place other at ≡ true → IsBefore other at own place
unfolding IsBefore
first_to own place other at h = grind (arith, nat_tests)

before_trans : (a p b q c r : ℕ) → IsBefore a p b q → IsBefore b q c r → IsBefore a p c r
unfolding IsBefore
before_trans a p b q c r h k = grind arith

not_first : (own place : ℕ) → goes_first own place own place ≡ false
not_first own place = grind (arith, nat_tests)

true_or_false : (b : Bool) → (b ≡ true) ⊎ (b ≡ false)
true_or_false true = inl refl
true_or_false false = inr refl

-- what goes before the one goes before what the one goes before
part_le : (a p b q other at : ℕ) → IsBefore a p b q → cond (goes_first a p other at) other 0 ≤ cond (goes_first b q other at) other 0
part_le a p b q other at h = elim (true_or_false (goes_first a p other at)) [
  | inl first ↦ let later = first_from b q other at (before_trans other at a p b q (first_to a p other at first) h) in rw (first, later) (omega arith)
  | inr not ↦ rw not (omega arith)
]

sum_le : (a p b q at : ℕ) (rs : List ℕ) → IsBefore a p b q → sum_before a p at rs ≤ sum_before b q at rs
sum_le a p b q at [] h = omega arith
sum_le a p b q at (r ∷ rs) h = omega (arith, part_le a p b q r at h, sum_le a p b q (at + 1) rs h)

-- where the one itself stands at its place, the sum before the other counts it too
sum_with : (a p b q at k : ℕ) (rs : List ℕ) → IsBefore a p b q → at + k ≡ p → k < length rs → get_or rs k 0 ≡ a → sum_before a p at rs + a ≤ sum_before b q at rs
sum_with a p b q at k [] h there within here = absurd (omega arith)
sum_with a p b q at zero (r ∷ rs) h there within here =
    let same : at ≡ p = omega arith in
    let none : goes_first a p r at ≡ false = rw (same, here) (not_first a p) in
    let counted : goes_first b q r at ≡ true = rw (same, here) (first_from b q a p h) in
    rw (none, counted) (omega (arith, here, sum_le a p b q (at + 1) rs h))
sum_with a p b q at (suc k) (r ∷ rs) h there within here =
    omega (arith, part_le a p b q r at h, sum_with a p b q (at + 1) k rs h (omega arith) (omega arith) here)

range_place : (place k : ℕ) (all rs : List ℕ) (d : IdRange) → k < length rs → get_or (ranges_from place all rs) k d ≡ range_at (get_or rs k 0) (place + k) all
range_place place k all [] d within = absurd (omega arith)
range_place place zero all (r ∷ rs) d within = ap (λ j. range_at r j all) (omega arith)
range_place place (suc k) all (r ∷ rs) d within = range_place (place + 1) k all rs d (omega arith) ∙ ap (λ j. range_at (get_or rs k 0) j all) (omega arith)

pub ranges_length : (place : ℕ) (all rs : List ℕ) → length (ranges_from place all rs) ≡ length rs
ranges_length place all [] = refl
ranges_length place all (r ∷ rs) = omega (arith, ranges_length (place + 1) all rs)

one_before : (a p b q : ℕ) → p < q → IsBefore a p b q ⊎ IsBefore b q a p
unfolding IsBefore
one_before a p b q h = grind arith

apart_at : (p q : ℕ) (rs : List ℕ) → p < q → q < length rs → DisjointIds (range_at (get_or rs p 0) p rs) (range_at (get_or rs q 0) q rs)
apart_at p q rs before within id first second = elim (one_before (get_or rs p 0) p (get_or rs q 0) q before) [
  | inl h ↦ omega (arith, sum_with (get_or rs p 0) p (get_or rs q 0) q 0 p rs h (omega arith) (omega arith) refl)
  | inr h ↦ omega (arith, sum_with (get_or rs q 0) q (get_or rs p 0) p 0 q rs h (omega arith) within refl)
]

pub ranges_apart : (rs : List ℕ) → AllPairs DisjointIds (ranges_from 0 rs rs)
ranges_apart rs i j d before within =
    let count : j < length rs = omega (arith, ranges_length 0 rs rs) in
    rw (range_place 0 i rs rs d (omega arith), range_place 0 j rs rs d count, zero-add i, zero-add j) (apart_at i j rs before count)

-- ---- a range begins at a multiple of its length

abbrev Multiple : ℕ → ℕ → Type 0
Multiple own n = (k : ℕ) × (n ≡ k * own)

no_multiple : (own : ℕ) → Multiple own 0
no_multiple own = (0, omega arith)

add_multiples : (own m n : ℕ) → Multiple own m → Multiple own n → Multiple own (m + n)
add_multiples own m n (j, e) (k, f) = (j + k, ap (λ x. x + n) e ∙ ap (λ x. j * own + x) f ∙ sym (add-mul j k own))

power_multiple : (a b : ℕ) → a ≤ b → Multiple (2 ^ a) (2 ^ b)
power_multiple a b h =
    let e : b - a + a ≡ b = omega arith in
    (2 ^ (b - a), ap (λ x. 2 ^ x) (sym e) ∙ pow-add 2 (b - a) a)

le_exponents : (a b : ℕ) → 2 ^ a ≤ 2 ^ b → a ≤ b
le_exponents a b h = elim (cases_lt b a) [
  | inl lt ↦ let more : 2 ^ suc b ≤ 2 ^ a = pow-le-pow_right {n = 2} (omega arith) {i = suc b} {j = a} (omega arith) in absurd (omega (arith, pow-suc 2 b, pow_pos b))
  | inr ge ↦ ge
]

before_le : (other at own place : ℕ) → IsBefore other at own place → own ≤ other
unfolding IsBefore
before_le other at own place h = grind arith

abbrev pub ArePowers : List ℕ → Type 0
ArePowers [] = Unit {0}
ArePowers (x ∷ xs) = ((k : ℕ) × (x ≡ 2 ^ k)) × ArePowers xs

pub powers_of : (counts : List ℕ) → ArePowers (map rounded counts)
powers_of [] = tt
powers_of (count ∷ counts) = ((rounded_is count).0, powers_of counts)

part_multiple : (a place x at k : ℕ) → x ≡ 2 ^ k → Multiple (2 ^ a) (cond (goes_first (2 ^ a) place x at) x 0)
part_multiple a place x at k e = elim (true_or_false (goes_first (2 ^ a) place x at)) [
  | inl first ↦
      let le : 2 ^ a ≤ x = before_le x at (2 ^ a) place (first_to (2 ^ a) place x at first) in
      let most : a ≤ k = le_exponents a k (subst (λ n. 2 ^ a ≤ n) e le) in
      let m : Multiple (2 ^ a) x = subst (λ n. Multiple (2 ^ a) n) (sym e) (power_multiple a k most) in
      rw first m
  | inr not ↦ rw not (no_multiple (2 ^ a))
]

sum_multiple : (a place at : ℕ) (xs : List ℕ) → ArePowers xs → Multiple (2 ^ a) (sum_before (2 ^ a) place at xs)
sum_multiple a place at [] h = no_multiple (2 ^ a)
sum_multiple a place at (x ∷ xs) h =
    add_multiples (2 ^ a) (cond (goes_first (2 ^ a) place x at) x 0) (sum_before (2 ^ a) place (at + 1) xs)
    (part_multiple a place x at h.0.0 h.0.1) (sum_multiple a place (at + 1) xs h.1)

no_rest : (own n : ℕ) → Multiple own n → n % own ≡ 0
no_rest own n (k, e) = ap (λ x. x % own) e ∙ mul-mod_left k own

aligned_power : (a place : ℕ) (all : List ℕ) → ArePowers all → BeginsAtMultiple (range_at (2 ^ a) place all)
aligned_power a place all g =
    let size : sum_before (2 ^ a) place 0 all + 2 ^ a - sum_before (2 ^ a) place 0 all ≡ 2 ^ a = omega arith in
    rw size (no_rest (2 ^ a) (sum_before (2 ^ a) place 0 all) (sum_multiple a place 0 all g))

pub ranges_aligned : (place : ℕ) (rs all : List ℕ) → ArePowers rs → ArePowers all → All BeginsAtMultiple (ranges_from place all rs)
ranges_aligned place [] all h g = λ k d l. absurd (omega arith)
ranges_aligned place (r ∷ rs) all h g =
    All-cons BeginsAtMultiple (range_at r place all) (ranges_from (place + 1) all rs)
    (subst (λ x. BeginsAtMultiple (range_at x place all)) (sym h.0.1) (aligned_power h.0.0 place all g))
    (ranges_aligned (place + 1) rs all h.1 g)
