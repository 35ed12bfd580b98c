-- Transfer sizes, in bytes.
use Rattle.std.specs.Prelude.{ℕ, Bool, ◌≤◌, ◌&&◌, ◌==◌, ◌||◌, ◌↔◌, nat_le, cond, min, max, IsTrue}
use Rattle.std.specs.Int.{is_power_of_two, IsPowerOfTwo}

-- the powers of two from a least to a greatest one, or none where both are 0
pub record SizeRange : Type 0 where
  pub min : ℕ
  pub max : ℕ

-- the range from a least to a greatest size
abbrev pub size_range : ℕ → ℕ → SizeRange
size_range least greatest = record { min = least; max = greatest }

-- two powers of two in order, at most 256
abbrev pub is_size_pair : ℕ → ℕ → Bool
is_size_pair min max = is_power_of_two min && is_power_of_two max && nat_le min max && nat_le max 256

-- what each range keeps
abbrev pub is_size_range : SizeRange → Bool
is_size_range s = (s.min == 0 && s.max == 0) || is_size_pair s.min s.max

-- the least and the greatest size of a range that has any
abbrev pub IsSizePair : ℕ → ℕ → Type 0
IsSizePair least greatest =
    IsPowerOfTwo least × IsPowerOfTwo greatest × (1 ≤ least) × (least ≤ greatest) × (greatest ≤ 256)

-- a number is a size of the range where it is a power of two from the least to the greatest
abbrev pub HasSize : SizeRange → ℕ → Type 0
HasSize s bytes = IsPowerOfTwo bytes × (s.min ≤ bytes) × (bytes ≤ s.max)

-- the same as a test
abbrev pub has_size : SizeRange → ℕ → Bool
has_size s bytes = is_power_of_two bytes && nat_le s.min bytes && nat_le bytes s.max

-- each size of the one is a size of the other
abbrev pub IsWithin : SizeRange → SizeRange → Type 0
IsWithin s t = (bytes : ℕ) → HasSize s bytes → HasSize t bytes

-- the same as a test
abbrev pub is_within : SizeRange → SizeRange → Bool
is_within s t = s.max == 0 || (nat_le t.min s.min && nat_le s.max t.max)

-- no size
abbrev pub no_sizes : SizeRange
no_sizes = record { min = 0; max = 0 }

-- a range has the sizes that two ranges have in common
abbrev pub IsMeet : SizeRange → SizeRange → SizeRange → Type 0
IsMeet s t common = (bytes : ℕ) → HasSize common bytes ↔ (HasSize s bytes × HasSize t bytes)

-- the same as a range
abbrev pub meet : SizeRange → SizeRange → SizeRange
meet s t =
    cond (nat_le (max s.min t.min) (min s.max t.max)) (record { min = max s.min t.min; max = min s.max t.max }) no_sizes

-- a range is the least one that has the sizes of two ranges
pub record IsCover (s t both : SizeRange) : Type 0 where
  pub first : IsWithin s both
  pub second : IsWithin t both
  pub least : (other : SizeRange) → IsTrue (is_size_range other) → IsWithin s other → IsWithin t other
      → IsWithin both other

-- the same as a range
abbrev pub cover : SizeRange → SizeRange → SizeRange
cover s t = cond (s.max == 0) t (cond (t.max == 0) s (record { min = min s.min t.min; max = max s.max t.max }))
