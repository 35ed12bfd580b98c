-- One address set without another, as sets.
use Rattle.std.specs.Prelude.{ℕ, zero, suc, ◌≡◌, ◌↔◌, ◌<◌, ◌*◌, ◌-◌, ◌/◌, ◌^◌, ◌==◌, List, [], ◌∷◌, map, cond, bit_and, bit_or, bit_xor}
use Rattle.std.specs.Int.{bit_at}
use Rattle.std.specs.List.{AllZip}
use Rattle.dip_sets.specs.Sets.{Pattern, In, overlap}

-- the bits that are free in the one set and fixed in the other
abbrev pub cut_bits : Pattern → Pattern → ℕ
cut_bits s t = bit_and s.mask (2 ^ 64 - 1 - t.mask)

-- those of them from a place up
abbrev pub cut_from : Pattern → Pattern → ℕ → ℕ
cut_from s t place = cut_bits s t / 2 ^ place * 2 ^ place

-- the one set with these bits fixed: the lowest as the other set doesn't have it, the higher ones as it has them
abbrev pub piece : Pattern → Pattern → ℕ → Pattern
piece s t place = record {
  base = bit_or s.base (bit_and (bit_xor t.base (2 ^ place)) (cut_from s t place));
  mask = bit_and s.mask (2 ^ 64 - 1 - cut_from s t place);
}

-- the same by its numbers: those of the one set that differ from the other at the place, and agree with it at the
-- higher bits
pub record InPiece (s t : Pattern) (place x : ℕ) : Type 0 where
  pub in_set : In s x
  pub differs : bit_at x place ≡ 1 - bit_at t.base place
  pub agrees : (i : ℕ) → place < i → bit_at (cut_bits s t) i ≡ 1 → bit_at x i ≡ bit_at t.base i

-- a set has the numbers of a piece
abbrev pub IsPiece : Pattern → Pattern → ℕ → Pattern → Type 0
IsPiece s t place set = (x : ℕ) → In set x ↔ InPiece s t place x

-- the places of a number's bits that are 1, below a place, the highest first
unfoldable pub places_of : ℕ → ℕ → List ℕ
places_of zero n = []
places_of (suc place) n = cond (bit_at n place == 1) (place ∷ places_of place n) (places_of place n)

-- the places of the bits that are free in the one set and fixed in the other
abbrev pub cut_places : Pattern → Pattern → List ℕ
cut_places s t = places_of 48 (cut_bits s t)

-- the pieces at these places
abbrev pub pieces : Pattern → Pattern → List Pattern
pieces s t = map (piece s t) (cut_places s t)

-- a piece for each of them, in their order, by the numbers in it
abbrev pub ArePieces : Pattern → Pattern → List Pattern → Type 0
ArePieces s t sets = AllZip (IsPiece s t) (cut_places s t) sets

-- the one set itself where they don't overlap
abbrev pub difference : Pattern → Pattern → List Pattern
difference s t = cond (overlap s t) (pieces s t) (s ∷ [])

-- the numbers of the one set that aren't in the other
abbrev pub InDifference : Pattern → Pattern → ℕ → Type 0
InDifference s t x = In s x × (In t x → ⊥)
