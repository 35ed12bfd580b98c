use Rattle.std.proofs.Common.{sym, refl, arith}
use Rattle.std.proofs.lemmas.Nat.{or_lt, and_le_l}
use Rattle.dip_sets.proofs.Bits.{common_is, common_apart}
use Rattle.dip_sets.proofs.Members.{disjoint_from_test}
use Rattle.dip_sets.proofs.set.AddressSet.intersect.Goals as goal

pub returns-then-not-overlaps-clause-none : goal.returns-then-not-overlaps-clause-none
returns-then-not-overlaps-clause-none c = (λ e. disjoint_from_test _ _ (sym c.if-not-overlaps.ensures.test), λ h. refl)

pub invariant_of-result : goal.invariant_of-result
invariant_of-result c = (
  common_apart _ _ _ _ c.self.invariant.0 c.other.invariant.0,
  or_lt 48 _ _ c.self.invariant.1 c.other.invariant.1,
  omega (arith, and_le_l c.self.inside.mask c.other.inside.mask, c.self.invariant.2),
)

pub returns-clause-some : goal.returns-clause-some
returns-clause-some c =
    let meet = c.if-not-overlaps.ensures.members.0 refl in
    rw (← c.self.view_is, ← c.other.view_is)
    (common_is _ _ c.self.invariant.0 c.other.invariant.0 (rw (← c.self.view_is, ← c.other.view_is) at meet))
