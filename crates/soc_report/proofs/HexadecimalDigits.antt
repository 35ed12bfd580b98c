-- Hexadecimal digits written one after another, the lowest first, from the end of a list to its front.
use Rattle.std.proofs.Common.{ℕ, suc, zero, ◌≡◌, ◌+◌, ◌*◌, ◌/◌, ◌%◌, ◌^◌, ◌<◌, ◌≤◌, List, [], ◌∷◌, length, drop, set, Bool, true, false, cond, eqb, eq-eqb, ne_eqb, refl, sym, ap, ◌∙◌, arith}
use Rattle.std.specs.Fmt.{digit_glyph, digits, digits_onto}
use Rattle.std.proofs.lemmas.Grind.{pow_more}
use Rattle.std.proofs.lemmas.List.{drop_all, drop-set, length-set}
use Rattle.dip_text.specs.Numbers.{hexadecimal}

-- the digits behind a place are written, the rest of the number is to come, and has digits for no more places
pub record IsWritten (number at rest : ℕ) (into : List ℕ) : Type 0 where
  pub long : length into ≡ 16
  pub room : at ≤ 15
  pub small : rest < 2 ^ (4 * at + 4)
  pub text : digits_onto (49 + at) 16 false rest (drop (at + 1) into) ≡ hexadecimal number

all_digits : (n : ℕ) → digits_onto 64 16 false n [] ≡ hexadecimal n
unfolding digits
all_digits n = refl

module _ (n : ℕ) (acc : List ℕ) (k : ℕ) where
  by_test : (t : Bool) → eqb (n / 16) 0 ≡ t
      → digits_onto (suc k) 16 false n acc
      ≡ cond t (digit_glyph false (n % 16) ∷ acc) (digits_onto k 16 false (n / 16) (digit_glyph false (n % 16) ∷ acc))
  by_test t e = ap (λ (b : Bool). cond b (digit_glyph false (n % 16) ∷ acc) (digits_onto k 16 false (n / 16) (digit_glyph false (n % 16) ∷ acc))) e

  last_digit : n / 16 ≡ 0 → digits_onto (suc k) 16 false n acc ≡ digit_glyph false (n % 16) ∷ acc
  last_digit e = by_test true (eq-eqb _ 0 e)

  next_digit : (n / 16 ≡ 0 → ⊥) → digits_onto (suc k) 16 false n acc ≡ digits_onto k 16 false (n / 16) (digit_glyph false (n % 16) ∷ acc)
  next_digit e = by_test false (ne_eqb _ 0 e)

four_more : (k : ℕ) → 2 ^ (k + 4) ≡ 2 ^ k * 16
four_more k =
    let a : 2 ^ (k + 1) ≡ 2 ^ k * 2 = pow_more 2 k in
    let b : 2 ^ (k + 1 + 1) ≡ 2 ^ (k + 1) * 2 = pow_more 2 (k + 1) in
    let c : 2 ^ (k + 1 + 1 + 1) ≡ 2 ^ (k + 1 + 1) * 2 = pow_more 2 (k + 1 + 1) in
    let d : 2 ^ (k + 1 + 1 + 1 + 1) ≡ 2 ^ (k + 1 + 1 + 1) * 2 = pow_more 2 (k + 1 + 1 + 1) in
    let e : k + 4 ≡ k + 1 + 1 + 1 + 1 = omega arith in
    ap (λ n. 2 ^ n) e ∙ omega arith

-- nothing is written
pub none_written : (number : ℕ) (into : List ℕ) → length into ≡ 16 → number < 2 ^ 64 → IsWritten number 15 number into
none_written number into l h = record {
  long = l;
  room = omega arith;
  small = h;
  text = ap (digits_onto 64 16 false number) (drop_all 16 into (omega (arith, l))) ∙ all_digits number;
}

-- a rest with a digit more has a place
pub some_place : (number at rest : ℕ) (into : List ℕ) → IsWritten number at rest into → 16 ≤ rest → 1 ≤ at
some_place number zero rest into h l = let s : rest < 16 = h.small in absurd (omega (arith, s, l))
some_place number (suc at) rest into h l = omega arith

less_rest : (rest m : ℕ) → rest < m * 16 → rest / 16 < m
less_rest rest m h = omega (arith, h)

-- a digit more is written
pub one_more_written : (number at next rest : ℕ) (into : List ℕ) → IsWritten number at rest into → 16 ≤ rest → at ≡ next + 1
    → IsWritten number next (rest / 16) (set into at (digit_glyph false (rest % 16)))
one_more_written number at next rest into h l e = record {
  long = length-set into at (digit_glyph false (rest % 16)) ∙ h.long;
  room = omega (arith, h.room, e);
  small = less_rest rest (2 ^ (4 * next + 4)) (let q : 4 * at + 4 ≡ 4 * next + 4 + 4 = omega (arith, e) in let f : 2 ^ (4 * at + 4) ≡ 2 ^ (4 * next + 4) * 16 = ap (λ n. 2 ^ n) q ∙ four_more (4 * next + 4) in omega (arith, h.small, f));
  text =
      let some : rest / 16 ≡ 0 → ⊥ = λ z. omega (arith, z, l) in
      let d = digit_glyph false (rest % 16) in
      ap (λ n. digits_onto (49 + next) 16 false (rest / 16) (drop n (set into at d))) (sym e)
      ∙ ap (digits_onto (49 + next) 16 false (rest / 16)) (drop-set into at d (omega (arith, h.long, h.room)))
      ∙ sym (next_digit rest (drop (at + 1) into) (49 + next) some)
      ∙ ap (λ n. digits_onto n 16 false rest (drop (at + 1) into)) (let q : suc (49 + next) ≡ 49 + at = omega (arith, e) in q)
      ∙ h.text;
}

-- the last digit is written
pub all_written : (number at rest : ℕ) (into : List ℕ) → IsWritten number at rest into → rest < 16
    → drop at (set into at (digit_glyph false rest)) ≡ hexadecimal number
all_written number at rest into h l =
    let q : rest % 16 ≡ rest = omega (arith, l) in
    drop-set into at (digit_glyph false rest) (omega (arith, h.long, h.room))
    ∙ ap (λ d. digit_glyph false d ∷ drop (at + 1) into) (sym q)
    ∙ sym (last_digit rest (drop (at + 1) into) (48 + at) (omega (arith, l)))
    ∙ ap (λ n. digits_onto n 16 false rest (drop (at + 1) into)) (let q : suc (48 + at) ≡ 49 + at = omega arith in q)
    ∙ h.text
