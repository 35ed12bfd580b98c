-- Digits of numbers.
use Rattle.std.proofs.Common.{ℕ, zero, suc, ◌≡◌, ◌-◌, ◌*◌, ◌/◌, ◌%◌, ◌^◌, ◌<◌, ◌≤◌, List, [], ◌∷◌, ◌++◌, refl, ap, sym, ◌∙◌, append_assoc, arith}
use Rattle.net_cells.proofs.Nets.{wide_bits, small_bits}
use Rattle.std.proofs.lemmas.Nat.{pow_pos}
use Rattle.std.proofs.lemmas.Bool.Decides.{nat_tests, same_from_decides, Decides-like, Decides-eqb, Decides-ltb}
use Rattle.std.specs.Prelude.{nat_lt, ◌==◌, true}
use Rattle.std.proofs.Math.Nat.{div-eq_of_lt}
use Rattle.ver_text.specs.Numerals.{hex_digit, hex_digits}

pub no_bits : (value bits : ℕ) → value < 2 ^ 64 → 64 ≤ bits → value / 2 ^ bits ≡ 0
no_bits value bits fits many = div-eq_of_lt (wide_bits value bits fits many)

-- the first of some digits, and the others
pub hex_digits_front : (places value : ℕ) → 0 < places → hex_digits places value ≡ hex_digit (value / 2 ^ (4 * (places - 1)) % 16) ∷ hex_digits (places - 1) value
hex_digits_front zero value h = absurd (omega arith)
hex_digits_front (suc places) value h = let e : places ≡ suc places - 1 = omega arith in rw (← e) refl

pub hex_digits_step : (old new made : List ℕ) (left value digit : ℕ) → 0 < left → new ≡ old ++ digit ∷ []
    → digit ≡ hex_digit (value / 2 ^ (4 * (left - 1)) % 16) → old ++ hex_digits left value ≡ made → new ++ hex_digits (left - 1) value ≡ made
hex_digits_step old new made left value digit h n d e =
    ap (λ (xs : List ℕ). xs ++ hex_digits (left - 1) value) n ∙ (append_assoc old (digit ∷ []) (hex_digits (left - 1) value)
    ∙ (ap (λ (x : ℕ). old ++ x ∷ hex_digits (left - 1) value) d ∙ (ap (λ (xs : List ℕ). old ++ xs) (sym (hex_digits_front left value h)) ∙ e)))

-- whether a number has at most so many bits
pub bits_wide : (value width : ℕ) → value < 2 ^ 64 → 64 ≤ width → true ≡ nat_lt value (2 ^ width)
bits_wide value width fits many = let h : value < 2 ^ width = wide_bits value width fits many in grind (arith, nat_tests)

pub bits_shifted : (value width : ℕ) → (value / 2 ^ width == 0) ≡ nat_lt value (2 ^ width)
bits_shifted value width =
    same_from_decides (value / 2 ^ width == 0) (nat_lt value (2 ^ width))
    (Decides-like (value / 2 ^ width == 0) (λ e. small_bits value (2 ^ width) (pow_pos width) e) (λ h. div-eq_of_lt h) (Decides-eqb (value / 2 ^ width) 0))
    (Decides-ltb value (2 ^ width))
