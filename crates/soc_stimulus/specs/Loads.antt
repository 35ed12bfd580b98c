-- The data and the mask of a request, as their texts say them.
use Rattle.std.specs.Prelude.{ℕ, List, [], ◌∷◌, ◌+◌, ◌*◌, ◌-◌, ◌==◌, ◌&&◌, map, Bool, cond, nat_le}

-- what a hexadecimal digit stands for; 0 for any other byte, which rule 2 refuses
abbrev pub data_digit : ℕ → ℕ
data_digit c =
    cond (nat_le 48 c && nat_le c 57) (c - 48) (cond (nat_le 97 c && nat_le c 102) (c - 87) 0)

-- the byte that two digits stand for, the high one first
abbrev pub byte_value : ℕ → ℕ → ℕ
byte_value high low = 16 * data_digit high + data_digit low

-- the bytes of a text with two digits for each, in the order of their addresses
abbrev pub data_bytes : List ℕ → List ℕ
data_bytes [] = []
data_bytes (high ∷ []) = []
data_bytes (high ∷ low ∷ text) = byte_value high low ∷ data_bytes text

-- the flags of a text with a digit for each: a byte is written where it is `1`
abbrev pub mask_flags : List ℕ → List Bool
mask_flags text = map (λ c. c == 49) text
