-- Ranges of a power of two of ids, by their prefixes.
use Rattle.std.proofs.Common.{◌≡◌, ℕ, suc, ◌-◌, ◌*◌, ◌/◌, ◌%◌, ◌^◌, ◌<◌, ◌≤◌, ap, ◌∙◌, arith, inl, inr, pow-suc}
use Rattle.std.specs.Int.{IsPowerOfTwo}
use Rattle.std.proofs.Math.Nat.{mod-eq-sub-div-mul, div-mul-le_self, pow-le-pow_right}
use Rattle.std.proofs.lemmas.Bool.{cases_lt}
use Rattle.dip_sets.specs.declared.ids.IdRange.{IdRange}
use Rattle.net_paths.specs.Paths.{IsIdBlock}
use Rattle.net_paths.proofs.Prefixed.{positive}

log_is : (n r k : ℕ) → n ≡ 2 ^ k → 2 ^ r ≤ n → n < 2 * 2 ^ r → n ≡ 2 ^ r
log_is n r k e l g =
    elim (cases_lt k r) [
      | inl a ↦ let m : 2 ^ suc k ≤ 2 ^ r = pow-le-pow_right {n = 2} (omega arith) {i = suc k} {j = r} (omega arith) in absurd (omega (arith, m, e, l, pow-suc 2 k, positive k))
      | inr b ↦
          elim (cases_lt r k) [
            | inl c ↦ let m : 2 ^ suc r ≤ 2 ^ k = pow-le-pow_right {n = 2} (omega arith) {i = suc r} {j = k} (omega arith) in absurd (omega (arith, m, e, g, pow-suc 2 r))
            | inr d ↦ let q : k ≡ r = omega arith in e ∙ ap (λ j. 2 ^ j) q
          ]
    ]

whole : (x n : ℕ) → x % n ≡ 0 → x ≡ x / n * n
whole x n e = let m = mod-eq-sub-div-mul x n in let d = div-mul-le_self x n in omega (arith, m, d, e)

pub block_is : (range : IdRange) (r : ℕ) → range.start ≤ range.end → r < 32 → IsPowerOfTwo (range.end - range.start) → range.start % (range.end - range.start) ≡ 0
    → 2 ^ r ≤ range.end - range.start → range.end - range.start < 2 * 2 ^ r
    → IsIdBlock range (record { prefix = range.start / (range.end - range.start); bits = r })
block_is range r o small (k, e) a l g =
    let p : range.end - range.start ≡ 2 ^ r = log_is (range.end - range.start) r k e l g in
    record {
      start = whole range.start (range.end - range.start) a ∙ ap (λ n. range.start / (range.end - range.start) * n) p;
      end = omega (arith, p, o);
      few = small;
    }
