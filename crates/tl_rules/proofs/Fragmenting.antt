-- Cutting and widening sizes by what two ranges have in common and by their cover.
use Rattle.std.proofs.Common.{refl, arith}
use Rattle.dip_sets.specs.SizeRanges.{IsSizePair}
use Rattle.dip_sets.proofs.Ranges.{size_pair_is}
use Rattle.tl_params.specs.declared.arguments.Fragments.{Fragments}
use Rattle.tl_params.specs.Arguments.{AreFragments}

-- 1 and a piece are a pair of sizes
pub small_pair : (f : Fragments) → AreFragments f → IsSizePair 1 f.piece
small_pair f h = let pair = (size_pair_is f.piece f.largest).0 h in ((0, refl), pair.0, omega arith, pair.2, omega (arith, pair.3, pair.4))

-- a piece is a pair of sizes with itself
pub piece_pair : (f : Fragments) → AreFragments f → IsSizePair f.piece f.piece
piece_pair f h = let pair = (size_pair_is f.piece f.largest).0 h in (pair.0, pair.0, pair.2, omega arith, omega (arith, pair.3, pair.4))

-- and with the largest transfer
pub whole_pair : (f : Fragments) → AreFragments f → IsSizePair f.piece f.largest
whole_pair f h = (size_pair_is f.piece f.largest).0 h
