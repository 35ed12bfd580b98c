-- Numbers in the text: decimal numbers, and literals of a width.
use Rattle.std.specs.Prelude.{ℕ, suc, zero, ◌+◌, ◌-◌, ◌*◌, ◌/◌, ◌%◌, ◌^◌, ◌==◌, List, [], ◌∷◌, ◌++◌, drop, codes, decimal, nat_lt, Bool, false, ◌&&◌, cond, Option, Some, None}
use Rattle.std.specs.List.{prefix_len}
use Rattle.std.specs.Str.{bytes_eq}
use Rattle.ver_text.specs.Lexemes.{is_digit}

-- `0` to `9` and `a` to `f`
abbrev pub hex_digit : ℕ → ℕ
hex_digit d = cond (nat_lt d 10) (48 + d) (87 + d)

-- so many hexadecimal digits of a number, the highest first
abbrev pub hex_digits : ℕ → ℕ → List ℕ
hex_digits zero value = []
hex_digits (suc places) value = hex_digit (value / 2 ^ (4 * places) % 16) ∷ hex_digits places value

-- a width, `'h`, and as many hexadecimal digits as the width needs
unfoldable pub literal : ℕ → ℕ → List ℕ
literal width value = decimal width ++ codes "'h" ++ hex_digits ((width + 3) / 4) value

-- ---- what is read

-- the value of a digit, decimal or hexadecimal
abbrev pub digit_value : ℕ → ℕ
digit_value c = cond (nat_lt c 97) (c - 48) (c - 87)

-- the value of digits behind a value so far, where it is below 2 ^ 64
abbrev pub numeral : ℕ → ℕ → List ℕ → Option ℕ
numeral base so_far [] = Some so_far
numeral base so_far (c ∷ cs) =
    cond (nat_lt (so_far * base + digit_value c) (2 ^ 64)) (numeral base (so_far * base + digit_value c) cs) None

-- a value, where it is written so
abbrev pub written : (ℕ → List ℕ) → List ℕ → Option ℕ → Option ℕ
written write text None = None
written write text (Some value) = cond (bytes_eq text (write value)) (Some value) None

-- the number below 2 ^ 64 that is written so: no leading zero stands before it
unfoldable pub written_number : List ℕ → Option ℕ
written_number text = written decimal text (numeral 10 0 text)

-- a number that may be none, if it is below a limit
abbrev pub if_below : ℕ → Option ℕ → Option ℕ
if_below limit None = None
if_below limit (Some value) = cond (nat_lt value limit) (Some value) None

-- the number below a limit that is written so
unfoldable pub number_below : ℕ → List ℕ → Option ℕ
number_below limit text = if_below limit (written_number text)

-- the number whose literal of so many bits is written so
unfoldable pub literal_of : ℕ → List ℕ → Option ℕ
literal_of width text = written (literal width) text (numeral 16 0 (drop (prefix_len is_digit text + 2) text))

-- a letter and a number
abbrev pub is_numbered : ℕ → ℕ → List ℕ → Bool
is_numbered letter number [] = false
is_numbered letter number (c ∷ cs) = (c == letter) && bytes_eq cs (decimal number)

-- the number behind a letter
abbrev pub numbered : ℕ → List ℕ → Option ℕ
numbered letter [] = None
numbered letter (c ∷ cs) = cond (c == letter) (written_number cs) None
