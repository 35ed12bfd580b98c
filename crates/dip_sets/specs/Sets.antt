-- Address sets by the numbers in them.
use Rattle.std.specs.Prelude.{ℕ, ◌≡◌, ◌↔◌, ◌<◌, ◌^◌, ◌==◌, Bool, List, Any, bit_and, bit_or, bit_xor}
use Rattle.std.specs.Int.{bit_at, trailing_ones, w64}

-- a base and a mask, as bits
pub record Pattern : Type 0 where
  pub base : ℕ
  pub mask : ℕ

-- what each address set keeps: no common bit, and 48 bits each
pub record IsSet (s : Pattern) : Type 0 where
  pub apart : bit_and s.base s.mask ≡ 0
  pub base_fits : s.base < 2 ^ 48
  pub mask_fits : s.mask < 2 ^ 48

-- a number is in the set where each of its bits outside the mask is the base's
abbrev pub In : Pattern → ℕ → Type 0
In s x = (i : ℕ) → bit_at s.mask i ≡ 0 → bit_at x i ≡ bit_at s.base i

-- the same as a test, where no bit is in both: the number with the base in place of its bits outside the mask is itself
abbrev pub is_in : Pattern → ℕ → Bool
is_in s x = bit_or (bit_and x s.mask) s.base == x

-- no number is in both
abbrev pub Disjoint : Pattern → Pattern → Type 0
Disjoint s t = (x : ℕ) → In s x → In t x → ⊥

-- some number is in both
abbrev pub Overlap : Pattern → Pattern → Type 0
Overlap s t = (x : ℕ) × In s x × In t x

-- the same as a test: the bases differ in bits of the masks alone
abbrev pub overlap : Pattern → Pattern → Bool
overlap s t = bit_and (bit_xor s.base t.base) (bit_or s.mask t.mask) == bit_xor s.base t.base

-- one of the sets holds the number
abbrev pub InSome : List Pattern → ℕ → Type 0
InSome sets x = Any (λ s. In s x) sets

-- each number of the one is in the other
abbrev pub Covers : Pattern → Pattern → Type 0
Covers s t = (x : ℕ) → In t x → In s x

-- a set has the numbers that two sets have in common
abbrev pub IsCommon : Pattern → Pattern → Pattern → Type 0
IsCommon s t both = (x : ℕ) → In both x ↔ (In s x × In t x)

-- the same as a set, where the two overlap
abbrev pub common : Pattern → Pattern → Pattern
common s t = record { base = bit_or s.base t.base; mask = bit_and s.mask t.mask }

-- the lowest power of two that isn't a bit of the mask
abbrev pub IsLowestClear : ℕ → ℕ → Type 0
IsLowestClear mask power = (k : ℕ) × (power ≡ 2 ^ k) × (bit_at mask k ≡ 0) × ((i : ℕ) → i < k → bit_at mask i ≡ 1)

-- the same as a number
abbrev pub alignment : Pattern → ℕ
alignment s = 2 ^ trailing_ones w64 s.mask
