use Rattle.dip_sets.proofs.Bits.{overlaps_is, tested}
use Rattle.dip_sets.proofs.set.AddressSet.overlaps.Goals as goal

pub returns-clause-members : goal.returns-clause-members
returns-clause-members c =
    rw (← c.self.view_is, ← c.other.view_is)
    (tested _ _ (overlaps_is _ _ c.self.invariant.0 c.other.invariant.0))
