-- The widths of buses, and the arguments that templates take.
use Rattle.std.specs.Prelude.{ℕ, List, [], ◌∷◌, Bool, ◌&&◌, ◌||◌, ◌==◌, nat_le, cond, IsTrue, Option, Some, None}
use Rattle.dip_sets.specs.SizeRanges.{is_size_pair}
use Rattle.tl_params.specs.declared.arguments.Fragments.{Fragments}

-- the widths that a bus may have, in bytes
abbrev pub is_width : ℕ → Bool
is_width bytes = bytes == 1 || bytes == 2 || bytes == 4 || bytes == 8

-- a fragmenter takes two arguments, the bytes of a piece and of the largest transfer: powers of two in order, at most
-- 256
abbrev pub fragment_arguments : List ℕ → Option Fragments
fragment_arguments [] = None
fragment_arguments (piece ∷ []) = None
fragment_arguments (piece ∷ largest ∷ []) =
    cond (is_size_pair piece largest) (Some (record { piece = piece; largest = largest })) None
fragment_arguments (piece ∷ largest ∷ other ∷ more) = None

-- a piece and a largest transfer that are right arguments
abbrev pub AreFragments : Fragments → Type 0
AreFragments fragments = IsTrue (is_size_pair fragments.piece fragments.largest)

-- a shrinker takes one argument, the number of ids: 1 to 64
abbrev pub shrink_argument : List ℕ → Option ℕ
shrink_argument [] = None
shrink_argument (ids ∷ []) = cond (nat_le 1 ids && nat_le ids 64) (Some ids) None
shrink_argument (ids ∷ other ∷ more) = None
