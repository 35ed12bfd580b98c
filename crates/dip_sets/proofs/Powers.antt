-- Powers of two.
use Rattle.std.proofs.Common.{ℕ, ◌≡◌, ◌+◌, ◌/◌, ◌%◌, ◌^◌, ◌≤◌, ◌⊎◌, ◌↔◌, inl, inr, zero, suc, IsTrue, count_ones, ap, ◌∙◌, arith, pow-suc, pow_pos}
use Rattle.std.specs.Int.Count.{ones_step}
use Rattle.std.specs.Int.{is_power_of_two, IsPowerOfTwo}
use Rattle.std.proofs.lemmas.Nat.{zero_from_ones, ones_le_self}
use Rattle.std.proofs.lemmas.Bool.Decides.{Decides-eqb}

odd_or_even : (n : ℕ) → (n % 2 ≡ 0) ⊎ (n % 2 ≡ 1)
odd_or_even n = grind arith

-- one bit alone is a power
power_within : (d n : ℕ) → n ≤ d → count_ones n ≡ 1 → IsPowerOfTwo n
power_within zero n h e = absurd (omega (arith, ones_le_self n))
power_within (suc d) n h e =
    let s = ones_step n in
    elim (odd_or_even n) [
      | inl even ↦ let half = power_within d (n / 2) (omega arith) (omega arith) in (suc half.0, omega (arith, half.1, pow-suc 2 half.0))
      | inr odd ↦ let rest = zero_from_ones (n / 2) (omega arith) in (0, omega arith)
    ]

pub power_from_ones : (n : ℕ) → count_ones n ≡ 1 → IsPowerOfTwo n
power_from_ones n = power_within n n (omega arith)

pub ones-pow : (k : ℕ) → count_ones (2 ^ k) ≡ 1
ones-pow zero = omega (arith, ones_step 1, ones_le_self 0)
ones-pow (suc k) =
    let half : 2 ^ suc k / 2 ≡ 2 ^ k = omega (arith, pow-suc 2 k) in
    ones_step (2 ^ suc k) ∙ ap (λ n. 2 ^ suc k % 2 + count_ones n) half ∙ omega (arith, ones-pow k, pow-suc 2 k)

pub ones_from_power : (n : ℕ) → IsPowerOfTwo n → count_ones n ≡ 1
ones_from_power n (k, e) = ap count_ones e ∙ ones-pow k

-- the test for a power of two
pub is_power_of_two_is : (n : ℕ) → IsTrue (is_power_of_two n) ↔ IsPowerOfTwo n
is_power_of_two_is n = (
  λ t. power_from_ones n ((Decides-eqb (count_ones n) 1).0 t),
  λ p. (Decides-eqb (count_ones n) 1).1 (ones_from_power n p),
)

pub power_pos : (n : ℕ) → IsPowerOfTwo n → 1 ≤ n
power_pos n (k, e) = omega (arith, pow_pos k)
