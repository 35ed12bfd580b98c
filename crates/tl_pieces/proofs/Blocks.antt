-- Numbers by blocks of digits.
use Rattle.std.proofs.Common.{ℕ, zero, suc, ◌≡◌, ◌+◌, ◌*◌, ◌/◌, ◌%◌, ◌^◌, ◌<◌, ◌≤◌, inl, inr, List, [], ◌∷◌, length, take, drop, ap, sym, ◌∙◌, arith}
use Rattle.std.proofs.Math.Nat.{pow-zero, pow-succ', div-one, div-div-eq-div-mul, zero-div, add-mul-mod_self_left, add-mul-div_left, mod-eq_of_lt, div-eq_of_lt, pow-le-pow_right}
use Rattle.std.proofs.lemmas.Bool.{cases_lt}
use Rattle.std.proofs.lemmas.Nat.{pow-add}
use Rattle.std.proofs.lemmas.List.{length-take, get_or-take, get_or_past, take-take, drop-take}
use Rattle.tl_edge.specs.Beats.{of_digits, part}
use Rattle.tl_edge.proofs.Digits.{AreDigits, of_digits-lt}
use Rattle.tl_pieces.specs.TwoBuses.{gathered}

-- the digits behind a place
pub drop_digits : (base place : ℕ) (xs : List ℕ) → 0 < base → AreDigits base xs → of_digits base xs / base ^ place ≡ of_digits base (drop place xs)
drop_digits base zero xs b h = ap (λ (n : ℕ). of_digits base xs / n) (pow-zero base) ∙ div-one (of_digits base xs)
drop_digits base (suc place) [] b h = zero-div (base ^ suc place)
drop_digits base (suc place) (x ∷ xs) b h =
    let rest : (x + base * of_digits base xs) / base ≡ of_digits base xs = add-mul-div_left x (of_digits base xs) b ∙ ap (λ (n : ℕ). n + of_digits base xs) (div-eq_of_lt (h 0)) ∙ omega arith in
    ap (λ (n : ℕ). (x + base * of_digits base xs) / n) (pow-succ' base place)
    ∙ sym (div-div-eq-div-mul (x + base * of_digits base xs) base (base ^ place))
    ∙ ap (λ (n : ℕ). n / base ^ place) rest
    ∙ drop_digits base place xs b (λ i. h (suc i))

-- the digits before a place and those behind it
pub split_digits : (base place : ℕ) (xs : List ℕ) → of_digits base xs ≡ of_digits base (take place xs) + base ^ place * of_digits base (drop place xs)
split_digits base zero xs = omega (arith, ap (λ (n : ℕ). n * of_digits base xs) (pow-zero base))
split_digits base (suc place) [] = omega arith
split_digits base (suc place) (x ∷ xs) =
    ap (λ (n : ℕ). x + base * n) (split_digits base place xs)
    ∙ regroup x base (of_digits base (take place xs)) (base ^ place) (of_digits base (drop place xs))
    ∙ sym (ap (λ (n : ℕ). x + base * of_digits base (take place xs) + n * of_digits base (drop place xs)) (pow-succ' base place))
  where
    regroup : (x b front power rest : ℕ) → x + b * (front + power * rest) ≡ x + b * front + b * power * rest
    regroup x b front power rest = grind arith

take_are_digits : (base place : ℕ) (xs : List ℕ) → 0 < base → AreDigits base xs → AreDigits base (take place xs)
take_are_digits base place xs b h i =
    elim (cases_lt i place) [
      | inl lt ↦ omega (arith, get_or-take place xs i 0 lt, h i)
      | inr ge ↦ omega (arith, b, get_or_past (take place xs) i 0 (omega (arith, length-take place xs, ge)))
    ]

pub take_digits : (base place : ℕ) (xs : List ℕ) → 0 < base → AreDigits base xs → of_digits base xs % base ^ place ≡ of_digits base (take place xs)
take_digits base place xs b h =
    let below : of_digits base (take place xs) < base ^ length (take place xs) = of_digits-lt base (take place xs) b (take_are_digits base place xs b h) in
    let within : base ^ length (take place xs) ≤ base ^ place = pow-le-pow_right b (omega (arith, length-take place xs)) in
    ap (λ (n : ℕ). n % base ^ place) (split_digits base place xs)
    ∙ add-mul-mod_self_left (of_digits base (take place xs)) (base ^ place) (of_digits base (drop place xs))
    ∙ mod-eq_of_lt (omega (arith, below, within))

-- a block of digits
pub block_digits : (base width number : ℕ) (xs : List ℕ) → 0 < base → AreDigits base xs → AreDigits base (drop (number * width) xs)
    → of_digits base xs / base ^ (number * width) % base ^ width ≡ of_digits base (part width number xs)
block_digits base width number xs b h d =
    ap (λ (n : ℕ). n % base ^ width) (drop_digits base (number * width) xs b h) ∙ take_digits base width (drop (number * width) xs) b d

-- a number is the sum of its blocks
pub blocks : (base width count : ℕ) (xs : List ℕ) → of_digits base (take (count * width) xs) ≡ gathered base (λ k. k * width) (λ k. of_digits base (part width k xs)) 0 count
blocks base width zero xs = let start : 0 * width ≡ 0 = omega arith in ap (λ (n : ℕ). of_digits base (take n xs)) start
blocks base width (suc count) xs =
    let more : suc count * width ≡ count * width + width = omega arith in
    let same : count ≡ 0 + count = omega arith in
    ap (λ (n : ℕ). of_digits base (take n xs)) more
    ∙ split_digits base (count * width) (take (count * width + width) xs)
    ∙ ap (λ (ys : List ℕ). of_digits base ys + base ^ (count * width) * of_digits base (drop (count * width) (take (count * width + width) xs))) (take-take (count * width) (count * width + width) xs (omega arith))
    ∙ ap (λ (ys : List ℕ). of_digits base (take (count * width) xs) + base ^ (count * width) * of_digits base ys) (drop-take (count * width) width xs)
    ∙ ap (λ (n : ℕ). n + base ^ (count * width) * of_digits base (part width count xs)) (blocks base width count xs)
    ∙ last (gathered base (λ k. k * width) (λ k. of_digits base (part width k xs)) 0 count) (base ^ (count * width)) (of_digits base (part width count xs))
    ∙ ap (λ (n : ℕ). gathered base (λ k. k * width) (λ k. of_digits base (part width k xs)) 0 count + of_digits base (part width n xs) * base ^ (n * width)) same
  where
    last : (sum power block : ℕ) → sum + power * block ≡ sum + block * power
    last sum power block = grind arith

-- sums of the same numbers at the same places
pub same_gathered : (base : ℕ) (place other_place value other_value : ℕ → ℕ) (first other_first count : ℕ) (shift : ℕ) → ((i : ℕ) → i < count → place (first + i) ≡ other_place (other_first + i) + shift)
    → ((i : ℕ) → i < count → value (first + i) ≡ other_value (other_first + i)) → gathered base place value first count ≡ gathered base other_place other_value other_first count * base ^ shift
same_gathered base place other_place value other_value first other_first zero shift p v = omega arith
same_gathered base place other_place value other_value first other_first (suc count) shift p v =
    ap (λ (n : ℕ). n + value (first + count) * base ^ place (first + count)) (same_gathered base place other_place value other_value first other_first count shift (λ i h. p i (omega (arith, h))) (λ i h. v i (omega (arith, h))))
    ∙ ap (λ (n : ℕ). gathered base other_place other_value other_first count * base ^ shift + n * base ^ place (first + count)) (v count (omega arith))
    ∙ ap (λ (n : ℕ). gathered base other_place other_value other_first count * base ^ shift + other_value (other_first + count) * n) (ap (λ (k : ℕ). base ^ k) (p count (omega arith)) ∙ pow-add base (other_place (other_first + count)) shift)
    ∙ regroup (gathered base other_place other_value other_first count) (base ^ shift) (other_value (other_first + count)) (base ^ other_place (other_first + count))
  where
    regroup : (sum moved block power : ℕ) → sum * moved + block * (power * moved) ≡ (sum + block * power) * moved
    regroup sum moved block power = grind arith
