-- A written literal is read back.
use Rattle.std.proofs.Common.{ℕ, zero, suc, ◌≡◌, ◌+◌, ◌*◌, ◌/◌, ◌%◌, ◌^◌, ◌<◌, ◌≤◌, List, [], ◌∷◌, ◌++◌, length, drop, true, Option, Some, refl, ap, sym, ◌∙◌, append_assoc, length-append, arith}
use Rattle.std.specs.Prelude.{codes, decimal}
use Rattle.std.specs.List.{prefix_len}
use Rattle.std.proofs.lemmas.Bool.Decides.{nat_tests}
use Rattle.std.proofs.lemmas.List.{drop_at}
use Rattle.std.proofs.lemmas.List.Folds.{prefix_len-append}
use Rattle.std.proofs.lemmas.Nat.{mod-pow-add, mod_below, pow_pos}
use Rattle.std.proofs.Math.Pow.{pow_mono}
use Rattle.std.proofs.Math.Nat.{add-mul, mul_assoc, mul-suc, mod-eq_of_lt}
use Rattle.std.proofs.lemmas.Fmt.{decimal_by_steps}
use Rattle.std.proofs.lemmas.Grind.{pow_more}
use Rattle.dip_lists.proofs.Tests.{own_number}
use Rattle.ver_text.specs.Lexemes.{is_digit}
use Rattle.ver_text.specs.Numerals.{hex_digit, hex_digits, digit_value, numeral, literal, literal_of}
use Rattle.ver_text.proofs.Readback.{below, bytes_same}

pub hex_is : (d : ℕ) → d < 16 → digit_value (hex_digit d) ≡ d
hex_is d h = grind (arith, nat_tests)

four_more : (k : ℕ) → 2 ^ (4 + k) ≡ 16 * 2 ^ k
four_more k =
    let a : 2 ^ (k + 1) ≡ 2 ^ k * 2 = pow_more 2 k in
    let b : 2 ^ (k + 1 + 1) ≡ 2 ^ (k + 1) * 2 = pow_more 2 (k + 1) in
    let c : 2 ^ (k + 1 + 1 + 1) ≡ 2 ^ (k + 1 + 1) * 2 = pow_more 2 (k + 1 + 1) in
    let d : 2 ^ (k + 1 + 1 + 1 + 1) ≡ 2 ^ (k + 1 + 1 + 1) * 2 = pow_more 2 (k + 1 + 1 + 1) in
    let e : 4 + k ≡ k + 1 + 1 + 1 + 1 = omega arith in
    ap (λ n. 2 ^ n) e ∙ omega arith

-- one more hexadecimal digit, by numbers
step_value : (s d m low : ℕ) → (s * 16 + d) * m + low ≡ s * (16 * m) + (d * m + low)
step_value s d m low = let a : (s * 16 + d) * m ≡ s * 16 * m + d * m = add-mul (s * 16) d m in let b : s * 16 * m ≡ s * (16 * m) = mul_assoc s 16 m in omega arith

le_times : (x m : ℕ) → 0 < m → x ≤ x * m
le_times x zero h = absurd (omega arith)
le_times x (suc m) h = omega (arith, mul-suc x m)

pub step_whole : (s k value : ℕ) → (s * 16 + value / 2 ^ (4 * k) % 16) * 2 ^ (4 * k) + value % 2 ^ (4 * k) ≡ s * 2 ^ (4 * suc k) + value % 2 ^ (4 * suc k)
step_whole s k value =
    let e : 4 * suc k ≡ 4 + 4 * k = omega arith in
    let low : value % 2 ^ (4 + 4 * k) ≡ (value / 2 ^ (4 * k) % 16) * 2 ^ (4 * k) + value % 2 ^ (4 * k) = mod-pow-add value 4 (4 * k) in
    step_value s (value / 2 ^ (4 * k) % 16) (2 ^ (4 * k)) (value % 2 ^ (4 * k))
    ∙ (ap (λ x. s * x + ((value / 2 ^ (4 * k) % 16) * 2 ^ (4 * k) + value % 2 ^ (4 * k))) (sym (four_more (4 * k)))
    ∙ (ap (λ x. s * 2 ^ (4 + 4 * k) + x) (sym low) ∙ ap (λ x. s * 2 ^ x + value % 2 ^ x) (sym e)))

hex_step : (s d : ℕ) (cs : List ℕ) (o : Option ℕ) → d < 16 → s * 16 + d < 2 ^ 64 → numeral 16 (s * 16 + d) cs ≡ o → numeral 16 s (hex_digit d ∷ cs) ≡ o
hex_step s d cs o h l e = rw (hex_is d h) (rw (below (s * 16 + d) l) e)

hex_read : (k s value : ℕ) → s * 2 ^ (4 * k) + value % 2 ^ (4 * k) < 2 ^ 64 → numeral 16 s (hex_digits k value) ≡ Some (s * 2 ^ (4 * k) + value % 2 ^ (4 * k))
hex_read zero s value h = let z : value % 1 < 1 = mod_below value 1 (omega arith) in let e : s ≡ s * 1 + value % 1 = omega arith in ap (λ x. Some x) e
hex_read (suc k) s value h =
    let d : ℕ = value / 2 ^ (4 * k) % 16 in
    let w : (s * 16 + d) * 2 ^ (4 * k) + value % 2 ^ (4 * k) ≡ s * 2 ^ (4 * suc k) + value % 2 ^ (4 * suc k) = step_whole s k value in
    let l : (s * 16 + d) * 2 ^ (4 * k) + value % 2 ^ (4 * k) < 2 ^ 64 = omega arith in
    let t : s * 16 + d ≤ (s * 16 + d) * 2 ^ (4 * k) = le_times (s * 16 + d) (2 ^ (4 * k)) (pow_pos (4 * k)) in
    hex_step s d (hex_digits k value) _ (mod_below (value / 2 ^ (4 * k)) 16 (omega arith)) (omega arith) (hex_read k (s * 16 + d) value l ∙ ap (λ x. Some x) w)

-- ---- the width before them

digit_true : (d : ℕ) → d < 10 → is_digit (48 + d) ≡ true
digit_true d h = grind (arith, nat_tests)

abbrev AreDigits : ℕ → List ℕ → Type 0
AreDigits n ds = prefix_len is_digit ds ≡ length ds

single : (n : ℕ) → n < 10 → AreDigits n ((48 + n) ∷ [])
single n h = rw (digit_true n h) refl

pub all_then : (ds cs : List ℕ) → prefix_len is_digit ds ≡ length ds → prefix_len is_digit (ds ++ cs) ≡ length ds + prefix_len is_digit cs
all_then ds cs e = prefix_len-append is_digit ds cs ∙ rw e (rw (own_number (length ds)) refl)

more : (n : ℕ) (ds : List ℕ) → 10 ≤ n → AreDigits (n / 10) ds → AreDigits n (ds ++ ((48 + n % 10) ∷ []))
more n ds h e =
    let one : prefix_len is_digit ((48 + n % 10) ∷ []) ≡ 1 = rw (digit_true (n % 10) (omega arith)) refl in
    all_then ds ((48 + n % 10) ∷ []) e ∙ (ap (λ x. length ds + x) one ∙ sym (length-append ds ((48 + n % 10) ∷ [])))

pub decimal_digits : (n : ℕ) → n < 2 ^ 64 → prefix_len is_digit (decimal n) ≡ length (decimal n)
decimal_digits n h = decimal_by_steps AreDigits single more n h

behind_width : (ds hex : List ℕ) → prefix_len is_digit ds ≡ length ds → drop (prefix_len is_digit (ds ++ codes "'h" ++ hex) + 2) (ds ++ codes "'h" ++ hex) ≡ hex
behind_width ds hex e =
    let regroup : ds ++ codes "'h" ++ hex ≡ ds ++ (codes "'h" ++ hex) = append_assoc ds (codes "'h") hex in
    let front : prefix_len is_digit (ds ++ codes "'h" ++ hex) ≡ length ds + 0 = ap (prefix_len is_digit) regroup ∙ all_then ds (codes "'h" ++ hex) e in
    let place : length (ds ++ codes "'h") ≡ prefix_len is_digit (ds ++ codes "'h" ++ hex) + 2 = omega (arith, length-append ds (codes "'h"), front) in
    drop_at (ds ++ codes "'h") hex (prefix_len is_digit (ds ++ codes "'h" ++ hex) + 2) place

digits_few : (width : ℕ) → width ≤ 64 → 2 ^ (4 * ((width + 3) / 4)) ≤ 2 ^ 64
digits_few width l = let m : 4 * ((width + 3) / 4) ≤ 64 = omega arith in pow_mono m

pub digits_value : (width value : ℕ) → width ≤ 64 → numeral 16 0 (hex_digits ((width + 3) / 4) value) ≡ Some (value % 2 ^ (4 * ((width + 3) / 4)))
digits_value width value l =
    let b : value % 2 ^ (4 * ((width + 3) / 4)) < 2 ^ (4 * ((width + 3) / 4)) = mod_below value (2 ^ (4 * ((width + 3) / 4))) (pow_pos (4 * ((width + 3) / 4))) in
    let m = digits_few width l in
    let total : 0 * 2 ^ (4 * ((width + 3) / 4)) + value % 2 ^ (4 * ((width + 3) / 4)) ≡ value % 2 ^ (4 * ((width + 3) / 4)) = omega arith in
    hex_read ((width + 3) / 4) 0 value (omega arith) ∙ ap (λ x. Some x) total

pub literal_rest : (width value : ℕ) → width ≤ 64 → drop (prefix_len is_digit (literal width value) + 2) (literal width value) ≡ hex_digits ((width + 3) / 4) value
unfolding literal
literal_rest width value l = behind_width (decimal width) (hex_digits ((width + 3) / 4) value) (decimal_digits width (omega arith))

pub digits_read : (width value : ℕ) → value < 2 ^ (4 * ((width + 3) / 4)) → width ≤ 64 → literal_of width (literal width value) ≡ Some value
unfolding literal_of
digits_read width value h l =
    let read : numeral 16 0 (hex_digits ((width + 3) / 4) value) ≡ Some value = digits_value width value l ∙ ap (λ x. Some x) (mod-eq_of_lt h) in
    rw (literal_rest width value l) (rw read (rw (bytes_same (literal width value)) refl))

pub literal_read : (width value : ℕ) → value < 2 ^ width → width ≤ 64 → literal_of width (literal width value) ≡ Some value
literal_read width value h l =
    let w : width ≤ 4 * ((width + 3) / 4) = omega arith in
    let m : 2 ^ width ≤ 2 ^ (4 * ((width + 3) / 4)) = pow_mono w in
    digits_read width value (omega arith) l
