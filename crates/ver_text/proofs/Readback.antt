-- Written numbers and names are read back.
use Rattle.std.proofs.Common.{ℕ, ◌≡◌, ◌+◌, ◌-◌, ◌*◌, ◌/◌, ◌%◌, ◌^◌, ◌<◌, ◌≤◌, List, [], ◌∷◌, ◌++◌, Bool, true, false, cond, Option, Some, None, refl, ap, ◌∙◌, arith}
use Rattle.std.specs.Prelude.{decimal, codes, nat_lt, ◌==◌}
use Rattle.std.specs.Str.{bytes_eq}
use Rattle.std.proofs.lemmas.Slice.Eq.{bytes_eq-Decides}
use Rattle.std.proofs.lemmas.Bool.Decides.{nat_tests}
use Rattle.std.proofs.lemmas.Fmt.{decimal_by_steps}
use Rattle.net_cells.specs.Rules.{IsWidth}
use Rattle.ver_text.specs.Numerals.{numeral, digit_value, written_number, number_below, is_numbered}
use Rattle.ver_text.specs.Due.{width_of}

pub bytes_same : (xs : List ℕ) → bytes_eq xs xs ≡ true
bytes_same xs = (bytes_eq-Decides xs xs).1 refl

pub bytes_equal : (xs ys : List ℕ) → xs ≡ ys → bytes_eq xs ys ≡ true
bytes_equal xs ys e = (bytes_eq-Decides xs ys).1 e

abbrev go_on : Option ℕ → (ℕ → Option ℕ) → Option ℕ
go_on None f = None
go_on (Some v) f = f v

append_by : (b : Bool) (base s : ℕ) (xs ys : List ℕ) → numeral base s (xs ++ ys) ≡ go_on (numeral base s xs) (λ v. numeral base v ys)
    → cond b (numeral base s (xs ++ ys)) None ≡ go_on (cond b (numeral base s xs) None) (λ v. numeral base v ys)
append_by true base s xs ys e = e
append_by false base s xs ys e = refl

numeral-append : (base s : ℕ) (xs ys : List ℕ) → numeral base s (xs ++ ys) ≡ go_on (numeral base s xs) (λ v. numeral base v ys)
numeral-append base s [] ys = refl
numeral-append base s (x ∷ xs) ys = append_by (nat_lt (s * base + digit_value x) (2 ^ 64)) base (s * base + digit_value x) xs ys (numeral-append base (s * base + digit_value x) xs ys)

digit_is : (d : ℕ) → d < 10 → digit_value (48 + d) ≡ d
digit_is d h = grind (arith, nat_tests)

pub below : (n : ℕ) → n < 2 ^ 64 → nat_lt n (2 ^ 64) ≡ true
below n h = grind (arith, nat_tests)

one_digit : (s n d : ℕ) → d < 10 → s * 10 + d ≡ n → n < 2 ^ 64 → numeral 10 s ((48 + d) ∷ []) ≡ Some n
one_digit s n d h e l = rw (digit_is d h) (rw e (rw (below n l) refl))

abbrev IsReadAs : ℕ → List ℕ → Type 0
IsReadAs n ds = n < 2 ^ 64 → numeral 10 0 ds ≡ Some n

single : (n : ℕ) → n < 10 → IsReadAs n ((48 + n) ∷ [])
single n h l = one_digit 0 n n h (omega arith) l

more : (n : ℕ) (ds : List ℕ) → 10 ≤ n → IsReadAs (n / 10) ds → IsReadAs n (ds ++ ((48 + n % 10) ∷ []))
more n ds h r l =
    let front : numeral 10 0 ds ≡ Some (n / 10) = r (omega arith) in
    numeral-append 10 0 ds ((48 + n % 10) ∷ []) ∙ (ap (λ o. go_on o (λ v. numeral 10 v ((48 + n % 10) ∷ []))) front ∙ one_digit (n / 10) n (n % 10) (omega arith) (omega arith) l)

pub decimal_read : (n : ℕ) → n < 2 ^ 64 → numeral 10 0 (decimal n) ≡ Some n
decimal_read n h = decimal_by_steps IsReadAs single more n h h

pub number_read : (n : ℕ) → n < 2 ^ 64 → written_number (decimal n) ≡ Some n
unfolding written_number
number_read n h = rw (decimal_read n h) (rw (bytes_same (decimal n)) refl)

pub below_read : (limit n : ℕ) → n < limit → n < 2 ^ 64 → number_below limit (decimal n) ≡ Some n
unfolding number_below
below_read limit n h l = let t : nat_lt n limit ≡ true = grind (arith, nat_tests) in rw (number_read n l) (rw t refl)

pub width_read : (width : ℕ) → IsWidth width → width_of (decimal (width - 1)) (codes "0") ≡ Some width
unfolding width_of
width_read width h =
    let e : width - 1 + 1 ≡ width = omega arith in
    rw (below_read 64 (width - 1) (omega arith) (omega arith)) (rw e refl)

pub numbered_is : (letter number other : ℕ) → number ≡ other → is_numbered letter other (letter ∷ decimal number) ≡ true
numbered_is letter number other e = let t : (letter == letter) ≡ true = grind (arith, nat_tests) in rw e (rw t (bytes_same (decimal other)))
