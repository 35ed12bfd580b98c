use Rattle.std.proofs.Common.{◌∙◌}
use Rattle.dip_sets.proofs.Assigned.{if_ok_same, ranges_rounded, ranges_room, ranges_apart, powers_of, ranges_aligned}
use Rattle.dip_sets.proofs.assign.assign_ranges.Goals as goal

pub returns-clause-rounded : goal.returns-clause-rounded
returns-clause-rounded c =
    let list = c.as_slice.ensures ∙ c.in_ok-rounded.ensures.value in
    let ranges = c.ranges_of.ensures in
    if_ok_same _ _ _ (rw list at ranges) (ranges_rounded _ _ 0)

pub returns-clause-room : goal.returns-clause-room
returns-clause-room c =
    let list = c.as_slice.ensures ∙ c.in_ok-rounded.ensures.value in
    let ranges = c.ranges_of.ensures in
    if_ok_same _ _ _ (rw list at ranges) (ranges_room _ _ 0)

pub returns-clause-disjoint : goal.returns-clause-disjoint
returns-clause-disjoint c = if_ok_same _ _ _ c.ranges_of.ensures (ranges_apart _)

pub returns-clause-aligned : goal.returns-clause-aligned
returns-clause-aligned c =
    let list = c.as_slice.ensures ∙ c.in_ok-rounded.ensures.value in
    let ranges = c.ranges_of.ensures in
    if_ok_same _ _ _ (rw list at ranges) (ranges_aligned 0 _ _ (powers_of _) (powers_of _))
