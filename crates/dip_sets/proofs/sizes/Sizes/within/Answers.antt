use Rattle.std.proofs.Common.{rules}
use Rattle.dip_sets.proofs.Ranges.{within_from_test}
use Rattle.dip_sets.proofs.sizes.Sizes.within.Goals as goal

pub returns-then-other-self-clause-members : goal.returns-then-other-self-clause-members
returns-then-other-self-clause-members c =
    within_from_test c.args.self.now c.args.other.now _ (rw (← c.self.view_is) c.self.invariant) (search rules)

pub returns-else-other-self-clause-members : goal.returns-else-other-self-clause-members
returns-else-other-self-clause-members c =
    within_from_test c.args.self.now c.args.other.now _ (rw (← c.self.view_is) c.self.invariant) (search rules)
