-- What the alignment of an address set is good for: a block that is no larger lies whole in the set or whole outside.
use Rattle.std.specs.Prelude.{ℕ, ◌≡◌, ◌%◌, ◌≤◌}
use Rattle.std.specs.Int.{IsPowerOfTwo}
use Rattle.dip_sets.specs.Regions.{InRegion}
use Rattle.dip_sets.specs.Sets.{Pattern, IsSet, In, alignment}

-- where one byte of a block that begins at a multiple of its size is in a set with that alignment or a greater one,
-- each byte is
abbrev pub WholeBlocksLaw : Type 0
WholeBlocksLaw =
    (s : Pattern) (start block byte other : ℕ) → IsSet s → IsPowerOfTwo block → start % block ≡ 0 → block ≤ alignment s
    → InRegion start block byte → In s byte → InRegion start block other → In s other
