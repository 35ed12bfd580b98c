-- Ranges of ids for counts.
use Rattle.std.specs.Prelude.{ℕ, zero, suc, ◌≡◌, ◌+◌, ◌-◌, ◌*◌, ◌%◌, ◌≤◌, List, [], ◌∷◌, map, Bool, ◌&&◌, ◌||◌, ◌==◌, nat_lt, nat_le, cond}
use Rattle.std.specs.Int.{IsNextPowerOfTwo}
use Rattle.dip_sets.specs.declared.ids.IdRange.{IdRange}

-- the first that isn't below the count of a power of two and so many that follow it
abbrev pub power_from : ℕ → ℕ → ℕ → ℕ
power_from zero power count = power
power_from (suc more) power count = cond (nat_le count power) power (power_from more (power * 2) count)

-- a count rounded up to a power of two
unfoldable pub rounded : ℕ → ℕ
rounded count = power_from count 1 count

-- the one at a place goes before the own one at its place: it is greater, or equal and earlier
abbrev pub goes_first : ℕ → ℕ → ℕ → ℕ → Bool
goes_first own place other at = nat_lt own other || (own == other && nat_lt at place)

-- the sum of those that go first, in a list that begins at a place
abbrev pub sum_before : ℕ → ℕ → ℕ → List ℕ → ℕ
sum_before own place at [] = 0
sum_before own place at (other ∷ others) =
    cond (goes_first own place other at) other 0 + sum_before own place (at + 1) others

-- a range begins after all that go before it
abbrev pub range_at : ℕ → ℕ → List ℕ → IdRange
range_at own place all = record { start = sum_before own place 0 all; end = sum_before own place 0 all + own }

-- the ranges of the rounded counts that stand from a place on, among all of them
abbrev pub ranges_from : ℕ → List ℕ → List ℕ → List IdRange
ranges_from place all [] = []
ranges_from place all (own ∷ rest) = range_at own place all ∷ ranges_from (place + 1) all rest

-- the ranges of the counts, in the order of the counts
abbrev pub assigned : List ℕ → List IdRange
assigned counts = ranges_from 0 (map rounded counts) (map rounded counts)

-- a range has as many ids as a count rounded up to a power of two
abbrev pub IsRounded : ℕ → IdRange → Type 0
IsRounded count range = IsNextPowerOfTwo count (range.end - range.start)

-- a range has an id for each of a count
abbrev pub HasRoom : ℕ → IdRange → Type 0
HasRoom count range = count ≤ range.end - range.start

-- a range begins at a multiple of its length
abbrev pub BeginsAtMultiple : IdRange → Type 0
BeginsAtMultiple range = range.start % (range.end - range.start) ≡ 0
