-- Numbers and their bytes: a loop over the bytes from the last one on, and one that writes them.
use Rattle.std.proofs.Common.{◌≡◌, ℕ, suc, ◌+◌, ◌*◌, ◌-◌, ◌/◌, ◌%◌, ◌^◌, ◌<◌, ◌≤◌, List, [], ◌∷◌, ◌++◌, length, get_or, set, take, drop, refl, ap, sym, subst, ◌∙◌, arith, append_assoc, drop-cons, lit≤, length-drop}
use Rattle.std.proofs.lemmas.List.{get_or-drop, take_more_set}
use Rattle.std.proofs.Math.Nat.{pow-le-pow_right}
use Rattle.tl_edge.specs.Beats.{of_digits}
use Rattle.tl_edge.specs.Joined.{digits}
use Rattle.tl_edge.proofs.Digits.{AreDigits, of_digits-lt}

-- what the loop has after one byte more
pub record IsMore (bytes : List ℕ) (count number byte : ℕ) : Type 0 where
  pub room : number * 256 < 2 ^ 64
  pub fits : number * 256 + byte < 2 ^ 64
  pub is : number * 256 + byte ≡ of_digits 256 (drop (length bytes - (count + 1)) bytes)

drop_digits : (xs : List ℕ) (n : ℕ) → AreDigits 256 xs → AreDigits 256 (drop n xs)
drop_digits xs n h i = subst (λ y. y < 256) (sym (get_or-drop n xs i 0)) (h (n + i))

few_digits : (xs : List ℕ) → AreDigits 256 xs → length xs ≤ 8 → of_digits 256 xs < 2 ^ 64
few_digits xs d few =
    let below = of_digits-lt 256 xs (lit≤ tt) d in
    let most : 256 ^ length xs ≤ 256 ^ 8 = pow-le-pow_right (lit≤ tt) few in
    omega (arith, below, most)

from_place : (bytes : List ℕ) (place rest number : ℕ) → place < length bytes → rest ≡ suc place
    → number ≡ of_digits 256 (drop rest bytes)
    → number * 256 + get_or bytes place 0 ≡ of_digits 256 (drop place bytes)
from_place bytes place rest number h r e =
    let at = drop-cons bytes place 0 h in
    let whole : of_digits 256 (drop place bytes) ≡ get_or bytes place 0 + 256 * of_digits 256 (drop (suc place) bytes) = ap (of_digits 256) at in
    let same : number ≡ of_digits 256 (drop (suc place) bytes) = subst (λ r. number ≡ of_digits 256 (drop r bytes)) r e in
    omega (arith, whole, same)

pub one_more : (bytes : List ℕ) (count number byte : ℕ) → AreDigits 256 bytes → length bytes ≤ 8 → count < length bytes
    → byte ≡ get_or bytes (length bytes - 1 - count) 0
    → number ≡ of_digits 256 (drop (length bytes - count) bytes) → IsMore bytes count number byte
one_more bytes count number byte d few h b e =
    let place : (p : ℕ) × (p ≡ length bytes - 1 - count) = (length bytes - 1 - count, refl) in
    let first : byte ≡ get_or bytes place.0 0 = b in
    let next = from_place bytes place.0 (length bytes - count) number (omega arith) (omega arith) e in
    let last : place.0 ≡ length bytes - (count + 1) = omega arith in
    let is : number * 256 + byte ≡ of_digits 256 (drop (length bytes - (count + 1)) bytes) =
    subst (λ p. number * 256 + byte ≡ of_digits 256 (drop p bytes)) last (ap (λ y. number * 256 + y) first ∙ next) in
    let below = few_digits (drop place.0 bytes) (drop_digits bytes place.0 d) (omega (arith, length-drop place.0 bytes)) in
    record { room = omega (arith, next, below); fits = omega (arith, next, below, first); is = is }

-- ---- writing

-- the next byte of the number is written, and the rest are to come
pub one_written : (bytes all : List ℕ) (place left rest byte : ℕ) → place < length bytes → byte ≡ rest % 256
    → left ≡ length bytes - place
    → take place bytes ++ digits 256 left rest ≡ all
    → take (place + 1) (set bytes place byte) ++ digits 256 (length bytes - (place + 1)) (rest / 256) ≡ all
one_written bytes all place left rest byte h b l e =
    let more : (m : ℕ) × (m ≡ length bytes - (place + 1)) = (length bytes - (place + 1), refl) in
    let next : left ≡ suc more.0 = omega arith in
    let now : take place bytes ++ rest % 256 ∷ digits 256 more.0 (rest / 256) ≡ all = subst (λ k. take place bytes ++ digits 256 k rest ≡ all) next e in
    let front : take (place + 1) (set bytes place byte) ≡ take place bytes ++ byte ∷ [] = take_more_set bytes place byte h in
    subst (λ k. take (place + 1) (set bytes place byte) ++ digits 256 k (rest / 256) ≡ all) more.1
    (rw (front, append_assoc (take place bytes) (byte ∷ []) (digits 256 more.0 (rest / 256)), b) now)
