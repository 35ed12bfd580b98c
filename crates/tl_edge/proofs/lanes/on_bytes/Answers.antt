use Rattle.std.proofs.Common.{arith}
use Rattle.tl_edge.proofs.Digits.{byte_loop, bytes_are_digits}
use Rattle.tl_edge.proofs.lanes.on_bytes.Goals as goal

pub overflow_add-lanes-in-loop-place : goal.overflow_add-lanes-in-loop-place
overflow_add-lanes-in-loop-place c =
    let both = byte_loop c.args.first c.loop-place.place c.loop-place.lanes c.from.result c.args.bytes.now c.requires c.loop-place-test.true (bytes_are_digits _ c.type_inv.bytes) c.from.ensures c.loop-place.invariant in
    omega (arith, both.0)

pub loop-place-preserved : goal.loop-place-preserved
loop-place-preserved c =
    (byte_loop c.args.first c.loop-place.place c.loop-place.lanes c.from.result c.args.bytes.now c.requires c.loop-place-test.true (bytes_are_digits _ c.type_inv.bytes) c.from.ensures c.loop-place.invariant).1
