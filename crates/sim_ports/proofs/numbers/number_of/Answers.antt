use Rattle.std.proofs.Common.{refl, arith}
use Rattle.tl_edge.proofs.Digits.{bytes_are_digits}
use Rattle.sim_ports.proofs.Bytewise.{one_more}
use Rattle.sim_ports.proofs.numbers.number_of.Goals as goal

pub overflow_mul-number : goal.overflow_mul-number
overflow_mul-number c =
    let more = one_more c.args.bytes.now c.loop-count.count c.loop-count.number _ (bytes_are_digits _ c.type_inv.bytes) c.requires c.loop-count-test.true refl c.loop-count.invariant in
    omega (arith, more.room)

pub overflow_add-number : goal.overflow_add-number
overflow_add-number c =
    let more = one_more c.args.bytes.now c.loop-count.count c.loop-count.number c.from.result (bytes_are_digits _ c.type_inv.bytes) c.requires c.loop-count-test.true c.from.ensures c.loop-count.invariant in
    omega (arith, more.fits)

pub loop-count-preserved : goal.loop-count-preserved
loop-count-preserved c =
    (one_more c.args.bytes.now c.loop-count.count c.loop-count.number c.from.result (bytes_are_digits _ c.type_inv.bytes) c.requires c.loop-count-test.true c.from.ensures c.loop-count.invariant).is
