use Rattle.dip_sets.proofs.Pieces.{piece_invariant}
use Rattle.dip_sets.proofs.set.AddressSet.piece.Goals as goal

pub invariant_of-result : goal.invariant_of-result
invariant_of-result c =
    let this = c.cut_bits.ensures.this in
    let that = c.cut_bits.ensures.that in
    let bits = c.cut_bits.ensures.bits in
    piece_invariant _ _ _ _ (rw (← c.self.view_is) at this) (rw (← c.other.view_is) at that) c.requires (rw (← c.self.view_is, ← c.other.view_is) at bits)
