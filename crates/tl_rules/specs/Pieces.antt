-- What a fragmenter's sizes are good for: what it takes goes on as it is or in pieces, and what its rule shows fits it.
use Rattle.std.specs.Prelude.{ℕ, ◌≡◌, ◌<◌, ◌≤◌, ◌↔◌, ◌⊎◌, IsTrue}
use Rattle.dip_sets.specs.SizeRanges.{SizeRange, size_range, is_size_range, HasSize}
use Rattle.tl_params.specs.declared.arguments.Fragments.{Fragments}
use Rattle.tl_params.specs.Arguments.{AreFragments}
use Rattle.tl_rules.specs.Fragments.{cut, widened}
use Rattle.tl_params.specs.Carried.{fits_pieces}

-- each size that is taken can go on: one of at most a piece as it is, and a larger one as pieces
abbrev pub GoOn : ℕ → SizeRange → SizeRange → Type 0
GoOn piece s t =
    (bytes : ℕ) → HasSize s bytes → (bytes ≤ piece → HasSize t bytes) × (piece < bytes → HasSize t piece)

-- a size that arrives: one of at most a piece, or a piece of a larger one
abbrev pub Arrives : ℕ → SizeRange → ℕ → Type 0
Arrives piece s bytes =
    (HasSize s bytes × (bytes ≤ piece)) ⊎ ((bytes ≡ piece) × (larger : ℕ) × HasSize s larger × (piece < larger))

-- what the sizes of a fragmenter with right arguments are good for
pub record PiecesLaw : Type 0 where
  -- the test on sizes says that they can go on
  pub goes_on : (fragments : Fragments) (s t : SizeRange) → AreFragments fragments → IsTrue (is_size_range s)
      → IsTrue (fits_pieces (size_range 1 fragments.piece) s t) ↔ GoOn fragments.piece s t
  -- the sizes behind a fragmenter are those that arrive
  pub arrive : (fragments : Fragments) (s : SizeRange) → AreFragments fragments → IsTrue (is_size_range s) → (bytes : ℕ)
      → HasSize (cut fragments.piece s) bytes ↔ Arrives fragments.piece s bytes
  -- the sizes that its rule shows before it can go on, up to the largest transfer where a piece can
  pub shown : (fragments : Fragments) (s : SizeRange) → GoOn fragments.piece (widened fragments s) s
  pub largest : (fragments : Fragments) (s : SizeRange) → AreFragments fragments → HasSize s fragments.piece
      → HasSize (widened fragments s) fragments.largest
