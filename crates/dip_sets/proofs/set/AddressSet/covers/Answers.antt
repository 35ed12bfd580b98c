use Rattle.dip_sets.proofs.Bits.{covers_is, tested}
use Rattle.dip_sets.proofs.set.AddressSet.covers.Goals as goal

pub returns : goal.returns
returns c =
    rw (← c.self.view_is, ← c.other.view_is)
    (tested _ _ (covers_is _ _ c.self.invariant.0 c.other.invariant.0 c.self.invariant.1 c.self.invariant.2 c.other.invariant.1 c.other.invariant.2))
