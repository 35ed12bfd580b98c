-- Numbers of bits.
use Rattle.std.proofs.Common.{ℕ, zero, suc, ◌≡◌, ◌+◌, ◌*◌, ◌^◌, ◌/◌, ◌<◌, ◌≤◌, ◌⊎◌, inl, inr, max, lit<, ap, sym, ◌∙◌, refl, subst, arith, pow-suc, pow_pos}
use Rattle.std.proofs.Math.Nat.{pow-le-pow_right}
use Rattle.std.proofs.lemmas.Bool.{cases_lt}
use Rattle.tl_edge.specs.Bundles.{halvings, digits_of, bits_for, log_of, IsLeastBits}

-- so many bits hold the number
pub halvings_hold : (more n : ℕ) → n ≤ more → n < 2 ^ halvings more n
unfolding halvings
halvings_hold zero n h = omega arith
halvings_hold (suc more) zero h = lit< tt
halvings_hold (suc more) (suc n) h = omega (arith, halvings_hold more (suc n / 2) (omega arith), pow-suc 2 (halvings more (suc n / 2)))

halvings_zero : (more : ℕ) → halvings more 0 ≡ 0
unfolding halvings
halvings_zero zero = refl
halvings_zero (suc more) = refl

none_or_some : (k : ℕ) → (k ≡ 0) ⊎ (0 < k)
none_or_some zero = inl refl
none_or_some (suc k) = inr (omega arith)

-- and one bit less doesn't
pub halvings_least : (more n : ℕ) → n ≤ more → 0 < n → 2 ^ halvings more n ≤ 2 * n
unfolding halvings
halvings_least zero n h p = absurd (omega arith)
halvings_least (suc more) zero h p = absurd (omega arith)
halvings_least (suc more) (suc n) h p =
    elim (none_or_some (suc n / 2)) [
      | inl none ↦ omega (arith, ap (λ (k : ℕ). 2 ^ halvings more k) none, ap (λ (k : ℕ). 2 ^ k) (halvings_zero more), pow-suc 2 (halvings more (suc n / 2)))
      | inr some ↦ omega (arith, halvings_least more (suc n / 2) (omega arith) some, pow-suc 2 (halvings more (suc n / 2)))
    ]

-- powers of two rise
pub exponents-lt : (a b : ℕ) → 2 ^ a < 2 ^ b → a < b
exponents-lt a b h = elim (cases_lt a b) [ inl lt ↦ lt | inr ge ↦ let p : 2 ^ b ≤ 2 ^ a = pow-le-pow_right (lit< tt) ge in absurd (omega arith) ]

pub digits_holds : (n : ℕ) → n < 2 ^ digits_of n
digits_holds n = halvings_hold n n (omega arith)

-- the number of digits is found between two powers of two
pub digits_between : (n log : ℕ) → 2 ^ log ≤ n → n < 2 * 2 ^ log → log + 1 ≡ digits_of n
digits_between n log low high =
    let some : 0 < n = omega (arith, pow_pos log) in
    let above : log < digits_of n = exponents-lt log (digits_of n) (omega (arith, digits_holds n)) in
    let least : 2 ^ digits_of n ≤ 2 * n = halvings_least n n (omega arith) some in
    let below : digits_of n < suc (suc log) = exponents-lt (digits_of n) (suc (suc log)) (omega (arith, pow-suc 2 log, pow-suc 2 (suc log))) in
    omega arith

pub digits_none : (n : ℕ) → n ≡ 0 → 0 ≡ digits_of n
digits_none n h = sym (ap digits_of h ∙ halvings_zero 0)

-- no fewer bits hold the number
pub bits_are_least : (n : ℕ) → IsLeastBits n (bits_for n)
bits_are_least n = record {
  some = omega arith;
  holds = omega (arith, digits_holds n, rise n);
  least = λ fewer h1 h2. least n fewer h1 h2;
}
  where
    rise : (k : ℕ) → 2 ^ digits_of k ≤ 2 ^ bits_for k
    rise k = pow-le-pow_right (lit< tt) (omega arith)

    within : (k fewer : ℕ) → k < 2 ^ fewer → digits_of k ≤ fewer
    within k fewer h = elim (none_or_some k) [
      | inl none ↦ omega (arith, ap digits_of none, halvings_zero 0)
      | inr some ↦ let below : digits_of k < suc fewer = exponents-lt (digits_of k) (suc fewer) (omega (arith, h, halvings_least k k (omega arith) some, pow-suc 2 fewer)) in omega arith
    ]

    least : (k fewer : ℕ) → 1 ≤ fewer → k < 2 ^ fewer → bits_for k ≤ fewer
    least k fewer h1 h2 = omega (arith, h1, within k fewer h2)

-- the logarithm of a power of two
pub log_of-pow : (k : ℕ) → log_of (2 ^ k) ≡ k
log_of-pow k = omega (arith, digits_between (2 ^ k) k (omega arith) (omega (arith, pow_pos k)))

pub least_bits : (n digits bits : ℕ) → digits ≡ digits_of n → bits ≡ max digits 1 → IsLeastBits n bits
least_bits n digits bits h e =
    let same : bits_for n ≡ bits = omega arith in
    let P : ℕ → Type 0 = λ b. IsLeastBits n b in subst P same (bits_are_least n)
