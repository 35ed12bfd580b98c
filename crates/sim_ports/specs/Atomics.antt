-- Atomic operations: the number that takes the place of another one (SiFive TileLink Specification 1.8, chapter 7:
-- arithmetic and logical data).
use Rattle.std.specs.Prelude.{ℕ, ◌+◌, ◌*◌, ◌-◌, ◌%◌, ◌^◌, ◌==◌, nat_le, Bool, cond, min, max, List, length, bit_and, bit_or, bit_xor}
use Rattle.tl_params.specs.declared.ops.Op.{Op}
use Rattle.tl_params.specs.declared.ops.Op.TheVariants.{PutFull, PutPartial, Arithmetic, Logical, Get, Intent}
use Rattle.tl_edge.specs.Beats.{of_digits}
use Rattle.tl_edge.specs.Joined.{digits}

-- ---- numbers of so many bytes in two's complement

-- the highest bit is set
abbrev pub is_negative : ℕ → ℕ → Bool
is_negative bytes n = nat_le (2 ^ (8 * bytes - 1)) n

-- of two with the same sign the one with the lower bits is the lower, and of two others the negative one
abbrev pub signed_min : ℕ → ℕ → ℕ → ℕ
signed_min bytes a b =
    cond (is_negative bytes a) (cond (is_negative bytes b) (min a b) a) (cond (is_negative bytes b) b (min a b))

-- the other one of the two
abbrev pub signed_max : ℕ → ℕ → ℕ → ℕ
signed_max bytes a b =
    cond (is_negative bytes a) (cond (is_negative bytes b) (max a b) b) (cond (is_negative bytes b) a (max a b))

-- the sum of two, without what doesn't fit in as many bytes
abbrev pub wrapped_sum : ℕ → ℕ → ℕ → ℕ
wrapped_sum bytes a b = (a + b) % 2 ^ (8 * bytes)

-- ---- the operations, by their params, on an old number and the operand

-- MIN, MAX, MINU, MAXU and ADD
abbrev pub arithmetic : ℕ → ℕ → ℕ → ℕ → ℕ
arithmetic param bytes old operand =
    cond (param == 0) (signed_min bytes old operand)
    (cond (param == 1) (signed_max bytes old operand)
    (cond (param == 2) (min old operand)
    (cond (param == 3) (max old operand)
    (wrapped_sum bytes old operand))))

-- XOR, OR, AND and SWAP
abbrev pub logical : ℕ → ℕ → ℕ → ℕ
logical param old operand =
    cond (param == 0) (bit_xor old operand)
    (cond (param == 1) (bit_or old operand)
    (cond (param == 2) (bit_and old operand)
    operand))

-- what an atomic operation makes of the old number; the others leave it
abbrev pub new_number : Op → ℕ → ℕ → ℕ → ℕ → ℕ
new_number PutFull param bytes old operand = old
new_number PutPartial param bytes old operand = old
new_number Arithmetic param bytes old operand = arithmetic param bytes old operand
new_number Logical param bytes old operand = logical param old operand
new_number Get param bytes old operand = old
new_number Intent param bytes old operand = old

-- ---- the same on bytes, little endian: the first byte is the lowest

abbrev pub new_bytes : Op → ℕ → List ℕ → List ℕ → List ℕ
new_bytes op param old operand =
    digits 256 (length old) (new_number op param (length old) (of_digits 256 old) (of_digits 256 operand))
