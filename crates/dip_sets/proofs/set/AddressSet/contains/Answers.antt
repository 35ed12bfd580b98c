use Rattle.dip_sets.proofs.Bits.{contains_is, tested}
use Rattle.dip_sets.proofs.set.AddressSet.contains.Goals as goal

pub returns-clause-members : goal.returns-clause-members
returns-clause-members c =
    rw (← c.self.view_is)
    (tested _ _ (contains_is _ _ _ c.self.invariant.0))
