-- A block no larger than a set's alignment lies whole in it or whole outside.
use Rattle.std.proofs.Common.{ℕ, ◌≡◌, ◌<◌, ◌≤◌, ◌-◌, ◌^◌, w64, sym, ◌∙◌, subst, arith, pow_pos}
use Rattle.std.specs.Int.{bit_at, trailing_ones, IsPowerOfTwo}
use Rattle.std.proofs.lemmas.Nat.Bits.{bit_at-trailing_ones, bit_at_ones_above}
use Rattle.dip_sets.specs.Regions.{InRegion}
use Rattle.dip_sets.specs.Sets.{alignment}
use Rattle.dip_sets.specs.WholeBlocks.{WholeBlocksLaw}
use Rattle.dip_sets.proofs.Blocks.{exponent_le, multiple_members}

-- a bit outside a mask is none of a block's, where the block is no larger than the mask's alignment
above : (mask i j : ℕ) → mask < 2 ^ 48 → bit_at mask i ≡ 0 → 2 ^ j ≤ 2 ^ trailing_ones w64 mask → j ≤ i
above mask i j fits clear within =
    let t = bit_at-trailing_ones w64 mask (omega arith) in
    let below : j ≤ trailing_ones w64 mask =
    exponent_le j (trailing_ones w64 mask) (2 ^ trailing_ones w64 mask) within (omega (arith, pow_pos (trailing_ones w64 mask))) in
    at_least i j (trailing_ones w64 mask) below (λ l. absurd (omega (arith, t.2 i l, clear)))
  where
    at_least : (i j t : ℕ) → j ≤ t → (i < t → ⊥) → j ≤ i
    at_least i j t below not_below = grind arith

pub whole_blocks : WholeBlocksLaw
whole_blocks s start block byte other set power multiple within here inside there i clear =
    let same : (x : ℕ) → InRegion start block x → bit_at x i ≡ bit_at start i =
    λ x region. (multiple_members start block x power multiple).1 region i (no_bit power) in
    same other there ∙ sym (same byte here) ∙ inside i clear
  where
    no_bit : IsPowerOfTwo block → bit_at (block - 1) i ≡ 0
    no_bit (j, e) =
        subst (λ b. bit_at (b - 1) i ≡ 0) (sym e) (bit_at_ones_above j i (above s.mask i j set.mask_fits clear (subst (λ b. b ≤ alignment s) e within)))
