-- Printed names, numbers and literals are found in the text.
use Rattle.std.proofs.Common.{ℕ, zero, suc, ◌≡◌, ◌+◌, ◌-◌, ◌*◌, ◌/◌, ◌%◌, ◌^◌, ◌<◌, ◌≤◌, List, [], ◌∷◌, ◌++◌, length, drop, Bool, true, false, ◌&&◌, cond, refl, ap, sym, subst, ◌∙◌, append_assoc, length-append, arith}
use Rattle.std.specs.Prelude.{codes, decimal, nat_lt, nat_le, ◌==◌}
use Rattle.std.specs.List.{prefix_len, list_all}
use Rattle.std.proofs.lemmas.List.{drop_at, take_at}
use Rattle.std.proofs.lemmas.List.Folds.{prefix_len-append}
use Rattle.std.proofs.lemmas.Bool.Decides.{nat_tests}
use Rattle.std.proofs.lemmas.Fmt.{decimal_by_steps, decimal_nonempty}
use Rattle.dip_lists.proofs.Tests.{own_number}
use Rattle.dip_lists.proofs.Tests.{both}
use Rattle.dip_sets.specs.Names.{is_name, is_letter, is_name_byte, begins_with_letter}
use Rattle.ver_text.specs.declared.kind.Kind.TheVariants as kind
use Rattle.ver_text.specs.declared.scan.Lexeme.{Lexeme}
use Rattle.ver_text.specs.Lexemes.{first_lexeme, lexeme_by, word_kind, word_of, is_digit, is_hex, literal_tail, numeral_of, numeral_lexeme}
use Rattle.ver_text.specs.Numerals.{literal, hex_digits, hex_digit}
use Rattle.ver_text.specs.Spelling.{tight_word, tight_number, apart_name, tight_name, register_name, cell_name}
use Rattle.ver_text.proofs.Formed.{low_first}
use Rattle.ver_text.proofs.Literals.{decimal_digits}
use Rattle.ver_text.proofs.Lexing.{Scanned, skip_none, skip_space}

-- what passes at a front goes on behind it
pub goes_on : (p : ℕ → Bool) (xs ys : List ℕ) → prefix_len p xs ≡ length xs → prefix_len p (xs ++ ys) ≡ length xs + prefix_len p ys
goes_on p xs ys e = prefix_len-append p xs ys ∙ rw e (rw (own_number (length xs)) refl)

stops : (p : ℕ → Bool) (xs ys : List ℕ) (b : ℕ) → prefix_len p xs ≡ length xs → p b ≡ false → prefix_len p (xs ++ b ∷ ys) ≡ length xs
stops p xs ys b e f =
    let none : prefix_len p (b ∷ ys) ≡ 0 = rw f refl in
    let n : length xs + 0 ≡ length xs = omega arith in
    goes_on p xs (b ∷ ys) e ∙ (ap (λ x. length xs + x) none ∙ n)

-- ---- names

-- a word that isn't a keyword
pub record IsWord (name : List ℕ) : Type 0 where
  pub letter : begins_with_letter name ≡ true
  pub full : prefix_len is_name_byte name ≡ length name
  pub plain : word_kind name ≡ kind.Name

name_lexed : (name rest : List ℕ) (b : ℕ) → IsWord name → is_name_byte b ≡ false
    → first_lexeme (name ++ b ∷ rest) ≡ record { kind = kind.Name; more = length name - 1 }
unfolding first_lexeme
name_lexed [] rest b w e = let f : false ≡ true = w.letter in cc
name_lexed (c ∷ cs) rest b w e =
    let text : List ℕ = (c ∷ cs) ++ b ∷ rest in
    let here : lexeme_by c text ≡ word_of text (prefix_len is_name_byte text) = rw w.letter refl in
    here
    ∙ (ap (word_of text) (stops is_name_byte (c ∷ cs) rest b w.full e)
    ∙ (ap (λ t. let l : Lexeme = record { kind = word_kind t; more = length (c ∷ cs) - 1 } in l) (take_at (c ∷ cs) (b ∷ rest) (length (c ∷ cs)) refl)
    ∙ ap (λ k. let l : Lexeme = record { kind = k; more = length (c ∷ cs) - 1 } in l) w.plain))

some_word : (name : List ℕ) → begins_with_letter name ≡ true → 0 < length name
some_word [] e = let f : false ≡ true = e in cc
some_word (c ∷ cs) e = omega arith

pub tight_is : (name rest : List ℕ) (b : ℕ) → IsWord name → is_name_byte b ≡ false → Scanned (tight_name name) (b ∷ rest)
tight_is name rest b w e = record { lexed = name_lexed name rest b w e; some = some_word name w.letter; token = refl; skips = skip_none }

pub apart_is : (name rest : List ℕ) → IsWord name → Scanned (apart_name name) rest
apart_is name rest w = record { lexed = name_lexed name rest 32 w refl; some = some_word name w.letter; token = refl; skips = skip_space }

all_pass : (p : ℕ → Bool) (xs : List ℕ) → list_all p xs ≡ true → prefix_len p xs ≡ length xs
all_pass p [] h = refl
all_pass p (x ∷ xs) h =
    let b = both (p x) (list_all p xs) h in
    let n : 1 + length xs ≡ suc (length xs) = omega arith in
    rw b.0 (rw (all_pass p xs b.1) n)

pub name_word : (name : List ℕ) → is_name name ≡ true → word_kind name ≡ kind.Name → IsWord name
name_word name h k =
    let a = both (begins_with_letter name && nat_le (length name) 64) (list_all is_name_byte name) h in
    let b = both (begins_with_letter name) (nat_le (length name) 64) a.0 in
    record { letter = b.0; full = all_pass is_name_byte name a.1; plain = k }

digit_byte : (d : ℕ) → d < 10 → is_name_byte (48 + d) ≡ true
digit_byte d h = grind (arith, nat_tests)

abbrev AreBytes : ℕ → List ℕ → Type 0
AreBytes n ds = prefix_len is_name_byte ds ≡ length ds

bytes_one : (n : ℕ) → n < 10 → AreBytes n ((48 + n) ∷ [])
bytes_one n h = rw (digit_byte n h) refl

bytes_more : (n : ℕ) (ds : List ℕ) → 10 ≤ n → AreBytes (n / 10) ds → AreBytes n (ds ++ ((48 + n % 10) ∷ []))
bytes_more n ds h e =
    let one : prefix_len is_name_byte ((48 + n % 10) ∷ []) ≡ 1 = rw (digit_byte (n % 10) (omega arith)) refl in
    goes_on is_name_byte ds ((48 + n % 10) ∷ []) e ∙ (ap (λ x. length ds + x) one ∙ sym (length-append ds ((48 + n % 10) ∷ [])))

decimal_bytes : (n : ℕ) → n < 2 ^ 64 → prefix_len is_name_byte (decimal n) ≡ length (decimal n)
decimal_bytes n h = decimal_by_steps AreBytes bytes_one bytes_more n h

not_e : (d : ℕ) → d ≤ 57 → (d == 101) ≡ false
not_e d h = grind (arith, nat_tests)

not_i : (d : ℕ) → d ≤ 57 → (d == 105) ≡ false
not_i d h = grind (arith, nat_tests)

register_plain : (ds : List ℕ) → 0 < length ds → ((c : ℕ) (cs : List ℕ) → ds ≡ c ∷ cs → c ≤ 57) → word_kind (114 ∷ ds) ≡ kind.Name
register_plain [] h l = absurd (omega arith)
register_plain (d ∷ ds) h l = rw (not_e d (l d ds refl)) refl

cell_plain : (ds : List ℕ) → 0 < length ds → ((c : ℕ) (cs : List ℕ) → ds ≡ c ∷ cs → c ≤ 57) → word_kind (119 ∷ ds) ≡ kind.Name
cell_plain [] h l = absurd (omega arith)
cell_plain (d ∷ ds) h l = rw (not_i d (l d ds refl)) refl

one_more : (n m : ℕ) → n ≡ m → 1 + n ≡ suc m
one_more n m e = omega arith

pub register_word : (k : ℕ) → k < 2 ^ 64 → IsWord (register_name k)
register_word k h = record {
  letter = refl;
  full = one_more (prefix_len is_name_byte (decimal k)) (length (decimal k)) (decimal_bytes k h);
  plain = register_plain (decimal k) (decimal_nonempty k h) (low_first k h);
}

pub cell_word : (k : ℕ) → k < 2 ^ 64 → IsWord (cell_name k)
cell_word k h = record {
  letter = refl;
  full = one_more (prefix_len is_name_byte (decimal k)) (length (decimal k)) (decimal_bytes k h);
  plain = cell_plain (decimal k) (decimal_nonempty k h) (low_first k h);
}

-- ---- numbers

no_letter : (d : ℕ) → is_digit d ≡ true → is_letter d ≡ false
no_letter d h = grind (arith, nat_tests)

and_false : (x : Bool) → (x && false) ≡ false
and_false true = refl
and_false false = refl

digit_of : (b : Bool) (n m : ℕ) → cond b (1 + n) 0 ≡ suc m → b ≡ true
digit_of true n m e = refl
digit_of false n m e = absurd (omega arith)

no_tail : (b : ℕ) (rest : List ℕ) → (b == 39) ≡ false → literal_tail (b ∷ rest) ≡ 0
no_tail b rest e = rw e (rw (and_false (nat_lt 2 (length (b ∷ rest)))) refl)

number_lexed : (ds rest : List ℕ) (b : ℕ) → 0 < length ds → prefix_len is_digit ds ≡ length ds → is_digit b ≡ false → (b == 39) ≡ false
    → first_lexeme (ds ++ b ∷ rest) ≡ record { kind = kind.Number; more = length ds - 1 }
unfolding first_lexeme
number_lexed [] rest b s f e q = absurd (omega arith)
number_lexed (d ∷ ds) rest b s f e q =
    let text : List ℕ = (d ∷ ds) ++ b ∷ rest in
    let digit : is_digit d ≡ true = digit_of (is_digit d) (prefix_len is_digit ds) (length ds) f in
    let here : lexeme_by d text ≡ numeral_lexeme text = rw (no_letter d digit) (rw digit refl) in
    let n : prefix_len is_digit text ≡ length (d ∷ ds) = stops is_digit (d ∷ ds) rest b f e in
    let tail : literal_tail (drop (length (d ∷ ds)) text) ≡ 0 = ap literal_tail (drop_at (d ∷ ds) (b ∷ rest) (length (d ∷ ds)) refl) ∙ no_tail b rest q in
    here ∙ (ap (λ m. numeral_of m (literal_tail (drop m text))) n ∙ ap (numeral_of (length (d ∷ ds))) tail)

pub number_is : (n : ℕ) (rest : List ℕ) (b : ℕ) → n < 2 ^ 64 → is_digit b ≡ false → (b == 39) ≡ false → Scanned (tight_number n) (b ∷ rest)
number_is n rest b h e q = record {
  lexed = number_lexed (decimal n) rest b (decimal_nonempty n h) (decimal_digits n h) e q;
  some = decimal_nonempty n h;
  token = refl;
  skips = skip_none;
}

pub nought_is : (rest : List ℕ) → Scanned (tight_word kind.Number (codes "0")) (93 ∷ rest)
nought_is rest = record { lexed = number_lexed (codes "0") rest 93 (omega arith) refl refl refl; some = omega arith; token = refl; skips = skip_none }

-- ---- literals

hex_byte : (d : ℕ) → d < 16 → is_hex (hex_digit d) ≡ true
hex_byte d h = grind (arith, nat_tests)

hex_all : (k value : ℕ) → prefix_len is_hex (hex_digits k value) ≡ length (hex_digits k value)
hex_all zero value = refl
hex_all (suc k) value = rw (hex_byte (value / 2 ^ (4 * k) % 16) (omega arith)) (one_more (prefix_len is_hex (hex_digits k value)) (length (hex_digits k value)) (hex_all k value))

above_two : (n : ℕ) → nat_lt 2 (suc (suc (suc n))) ≡ true
above_two n = grind (arith, nat_tests)

tail_is : (h : ℕ) (hs rest : List ℕ) → is_hex h ≡ true → prefix_len is_hex hs ≡ length hs → literal_tail (39 ∷ 104 ∷ h ∷ (hs ++ 59 ∷ rest)) ≡ 3 + length hs
tail_is h hs rest t e = rw (above_two (length (hs ++ 59 ∷ rest))) (rw t (ap (λ n. 3 + n) (stops is_hex hs rest 59 e refl)))

no_nought : (n : ℕ) → (3 + n == 0) ≡ false
no_nought n = grind (arith, nat_tests)

literal_lexed : (ds : List ℕ) (h : ℕ) (hs rest : List ℕ) → 0 < length ds → prefix_len is_digit ds ≡ length ds → is_hex h ≡ true → prefix_len is_hex hs ≡ length hs
    → first_lexeme (ds ++ (39 ∷ 104 ∷ h ∷ (hs ++ 59 ∷ rest))) ≡ record { kind = kind.Literal; more = length ds + (3 + length hs) - 1 }
unfolding first_lexeme
literal_lexed [] h hs rest s f t e = absurd (omega arith)
literal_lexed (d ∷ ds) h hs rest s f t e =
    let more : List ℕ = 104 ∷ h ∷ (hs ++ 59 ∷ rest) in
    let text : List ℕ = (d ∷ ds) ++ 39 ∷ more in
    let digit : is_digit d ≡ true = digit_of (is_digit d) (prefix_len is_digit ds) (length ds) f in
    let here : lexeme_by d text ≡ numeral_lexeme text = rw (no_letter d digit) (rw digit refl) in
    let n : prefix_len is_digit text ≡ length (d ∷ ds) = stops is_digit (d ∷ ds) more 39 f refl in
    let tail : literal_tail (drop (length (d ∷ ds)) text) ≡ 3 + length hs = ap literal_tail (drop_at (d ∷ ds) (39 ∷ more) (length (d ∷ ds)) refl) ∙ tail_is h hs rest t e in
    let chosen : numeral_of (length (d ∷ ds)) (3 + length hs) ≡ record { kind = kind.Literal; more = length (d ∷ ds) + (3 + length hs) - 1 } = rw (no_nought (length hs)) refl in
    here ∙ (ap (λ m. numeral_of m (literal_tail (drop m text))) n ∙ (ap (numeral_of (length (d ∷ ds))) tail ∙ chosen))

literal_by : (k width value : ℕ) (rest : List ℕ) → width < 2 ^ 64
    → first_lexeme ((decimal width ++ codes "'h" ++ hex_digits (suc k) value) ++ 59 ∷ rest)
    ≡ record { kind = kind.Literal; more = length (decimal width ++ codes "'h" ++ hex_digits (suc k) value) - 1 }
literal_by k width value rest h =
    let hex : List ℕ = hex_digits k value in
    let d : ℕ = hex_digit (value / 2 ^ (4 * k) % 16) in
    let regroup : (decimal width ++ codes "'h" ++ hex_digits (suc k) value) ++ 59 ∷ rest ≡ decimal width ++ (39 ∷ 104 ∷ d ∷ (hex ++ 59 ∷ rest)) =
    append_assoc (decimal width ++ codes "'h") (hex_digits (suc k) value) (59 ∷ rest) ∙ append_assoc (decimal width) (codes "'h") (hex_digits (suc k) value ++ 59 ∷ rest) in
    let long : length (decimal width) + (3 + length hex) - 1 ≡ length (decimal width ++ codes "'h" ++ hex_digits (suc k) value) - 1 =
    omega (arith, length-append (decimal width ++ codes "'h") (hex_digits (suc k) value), length-append (decimal width) (codes "'h")) in
    ap first_lexeme regroup
    ∙ (literal_lexed (decimal width) d hex rest (decimal_nonempty width h) (decimal_digits width h) (hex_byte (value / 2 ^ (4 * k) % 16) (omega arith)) (hex_all k value)
    ∙ ap (λ n. let l : Lexeme = record { kind = kind.Literal; more = n } in l) long)

some_places : (width : ℕ) → 0 < width → (k : ℕ) × ((width + 3) / 4 ≡ suc k)
some_places width h = ((width + 3) / 4 - 1, omega arith)

pub literal_is : (width value : ℕ) (rest : List ℕ) → 0 < width → width < 2 ^ 64 → Scanned (tight_word kind.Literal (literal width value)) (59 ∷ rest)
unfolding literal
literal_is width value rest s h =
    let k = some_places width s in
    let nonempty : 0 < length (decimal width ++ codes "'h" ++ hex_digits ((width + 3) / 4) value) =
    omega (arith, length-append (decimal width ++ codes "'h") (hex_digits ((width + 3) / 4) value), length-append (decimal width) (codes "'h")) in
    record {
      lexed = subst (λ n. first_lexeme ((decimal width ++ codes "'h" ++ hex_digits n value) ++ 59 ∷ rest)
          ≡ record { kind = kind.Literal; more = length (decimal width ++ codes "'h" ++ hex_digits n value) - 1 }) (sym k.1) (literal_by k.0 width value rest h);
      some = nonempty;
      token = refl;
      skips = skip_none;
    }
