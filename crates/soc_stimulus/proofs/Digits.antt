-- The bytes of a text, pair of digits by pair.
use Rattle.std.proofs.Common.{ℕ, ◌≡◌, ◌<◌, ◌≤◌, ◌+◌, List, [], ◌∷◌, ◌++◌, get_or, drop, length, refl, sym, ◌∙◌, ap, append_assoc, arith}
use Rattle.std.proofs.lemmas.Bool.Decides.{nat_tests}
use Rattle.std.proofs.lemmas.List.{drop_more, length-drop}
use Rattle.std.proofs.lemmas.List.Elements.{All-nil, All-cons}
use Rattle.tl_edge.specs.Messages.{AreBytes}
use Rattle.soc_stimulus.specs.Loads.{data_digit, byte_value, data_bytes}

-- what is left of a text behind two digits
pub pair_at : (text : List ℕ) (n : ℕ) → n + 1 < length text
    → data_bytes (drop n text) ≡ byte_value (get_or text n 0) (get_or text (n + 1) 0) ∷ data_bytes (drop (n + 1 + 1) text)
pair_at text n h =
    let here : n < length text = omega arith in
    ap data_bytes (drop_more text n 0 here ∙ ap (λ rest. get_or text n 0 ∷ rest) (drop_more text (n + 1) 0 h))

-- one byte more
pub byte_more : (text : List ℕ) (n next : ℕ) (bytes : List ℕ) (high low : ℕ) → n + 1 < length text
    → high ≡ get_or text n 0 → low ≡ get_or text (n + 1) 0 → next ≡ n + 1 + 1
    → (bytes ++ byte_value high low ∷ []) ++ data_bytes (drop next text) ≡ bytes ++ data_bytes (drop n text)
byte_more text n next bytes high low h e f g =
    append_assoc bytes (byte_value high low ∷ []) (data_bytes (drop next text))
    ∙ ap (λ rest. bytes ++ rest) (rw (e, f, g) (sym (pair_at text n h)))

few_digits : (text : List ℕ) → length text ≤ 1 → data_bytes text ≡ []
few_digits [] h = refl
few_digits (c ∷ []) h = refl
few_digits (c ∷ d ∷ text) h = absurd (omega arith)

-- no byte is left where fewer than two digits are
pub none_left : (text : List ℕ) (n : ℕ) → length text ≤ n + 1 → data_bytes (drop n text) ≡ []
none_left text n h = few_digits (drop n text) (omega (arith, length-drop n text))

-- what two digits stand for is a byte
small_digit : (c : ℕ) → data_digit c ≤ 15
small_digit c = grind (arith, nat_tests)

small_byte : (high low : ℕ) → byte_value high low < 256
small_byte high low = omega (arith, small_digit high, small_digit low)

pub data_are_bytes : (text : List ℕ) → AreBytes (data_bytes text)
data_are_bytes [] = All-nil (λ byte. byte < 256)
data_are_bytes (high ∷ []) = All-nil (λ byte. byte < 256)
data_are_bytes (high ∷ low ∷ text) =
    All-cons (λ byte. byte < 256) (byte_value high low) (data_bytes text) (small_byte high low) (data_are_bytes text)
