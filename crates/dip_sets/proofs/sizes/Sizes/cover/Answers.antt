use Rattle.dip_sets.proofs.Ranges.{cover_first, cover_second, cover_both, cover_range}
use Rattle.dip_sets.proofs.sizes.Sizes.cover.Goals as goal

pub returns-then-self-eq0-clause-members : goal.returns-then-self-eq0-clause-members
returns-then-self-eq0-clause-members c = rw (← c.self.view_is, ← c.other.view_is) (cover_second _ _ c.if-self-eq0.true)

pub returns-then-other-eq0-clause-members : goal.returns-then-other-eq0-clause-members
returns-then-other-eq0-clause-members c = rw (← c.self.view_is, ← c.other.view_is) (cover_first _ _ c.if-other-eq0.true)

pub invariant_of-result-2 : goal.invariant_of-result-2
invariant_of-result-2 c =
    rw (c.min.ensures, c.max.ensures) (cover_range _ _ c.self.invariant c.other.invariant c.if-self-eq0.false c.if-other-eq0.false)

pub returns-clause-members : goal.returns-clause-members
returns-clause-members c =
    rw (← c.self.view_is, ← c.other.view_is, c.min.ensures, c.max.ensures)
    (cover_both _ _ c.self.invariant c.other.invariant c.if-self-eq0.false c.if-other-eq0.false)
