use Rattle.std.proofs.Common.{arith}
use Rattle.tl_edge.proofs.Digits.{bit_loop}
use Rattle.tl_edge.proofs.lanes.on_bits.Goals as goal

pub overflow_add-lanes-in-loop-place : goal.overflow_add-lanes-in-loop-place
overflow_add-lanes-in-loop-place c =
    let both = bit_loop c.args.first c.loop-place.place c.loop-place.lanes c.from.result c.args.flags.now c.requires c.loop-place-test.true c.from.ensures c.loop-place.invariant in
    omega (arith, both.0)

pub loop-place-preserved : goal.loop-place-preserved
loop-place-preserved c = (bit_loop c.args.first c.loop-place.place c.loop-place.lanes c.from.result c.args.flags.now c.requires c.loop-place-test.true c.from.ensures c.loop-place.invariant).1
