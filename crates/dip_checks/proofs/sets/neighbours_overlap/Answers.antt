use Rattle.dip_checks.proofs.Rows.{neighbours_on}
use Rattle.dip_checks.proofs.sets.neighbours_overlap.Goals as goal

pub loop-place-preserved : goal.loop-place-preserved
loop-place-preserved c =
    neighbours_on c.args.sets.now c.loop-place.place c.index-sets-place.result c.index-sets-place-in-loop-place.result c.overlaps.result c.loop-place.auto.place c.loop-place-test.true
    c.index-sets-place.is c.index-sets-place-in-loop-place.is c.overlaps.ensures.test c.if-overlaps.false c.loop-place.invariant
