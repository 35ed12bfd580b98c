-- A region of addresses as sets.
use Rattle.std.specs.Prelude.{ℕ, zero, suc, ◌≡◌, ◌+◌, ◌-◌, ◌%◌, ◌^◌, ◌≤◌, ◌<◌, List, [], ◌∷◌, ◌&&◌, ◌==◌, nat_le, cond}
use Rattle.std.specs.Int.{IsPowerOfTwo}
use Rattle.dip_sets.specs.Sets.{Pattern}

-- the numbers from a start on, so many as a size says
abbrev pub InRegion : ℕ → ℕ → ℕ → Type 0
InRegion start size x = (start ≤ x) × (x < start + size)

-- the greatest power of two that divides a start and fits in a size
pub record IsBlock (start size block : ℕ) : Type 0 where
  pub power : IsPowerOfTwo block
  pub divides : start % block ≡ 0
  pub fits : block ≤ size
  pub greatest : (other : ℕ) → IsPowerOfTwo other → start % other ≡ 0 → other ≤ size → other ≤ block

-- the addresses of a block that begins at a start
abbrev pub block_set : ℕ → ℕ → Pattern
block_set start block = record { base = start; mask = block - 1 }

-- a region is split where each set is the greatest block at the start of what is left
abbrev pub IsSplit : ℕ → ℕ → List Pattern → Type 0
IsSplit start size [] = size ≡ 0
IsSplit start size (set ∷ sets) =
    (block : ℕ) × IsBlock start size block × (set ≡ block_set start block) × IsSplit (start + block) (size - block) sets

-- the greatest such block, of 2 to the power of an exponent at most
unfoldable pub block_below : ℕ → ℕ → ℕ → ℕ
block_below zero start size = 1
block_below (suc k) start size =
    cond (start % 2 ^ suc k == 0 && nat_le (2 ^ suc k) size) (2 ^ suc k) (block_below k start size)

-- the first so many sets of the split
unfoldable pub first_sets : ℕ → ℕ → ℕ → List Pattern
first_sets zero start size = []
first_sets (suc more) start size =
    cond (size == 0) []
    (block_set start (block_below 48 start size)
    ∷ first_sets more (start + block_below 48 start size) (size - block_below 48 start size))

-- the split of a region of at most 2^48 addresses
abbrev pub region_sets : ℕ → ℕ → List Pattern
region_sets start size = first_sets size start size
