use Rattle.std.proofs.Common.{◌<◌, length, refl, arith}
use Rattle.std.proofs.Math.ListN.{length-set}
use Rattle.sim_ports.proofs.Bytewise.{one_written}
use Rattle.sim_ports.proofs.numbers.put_number.Goals as goal

pub loop-byte-preserved : goal.loop-byte-preserved
loop-byte-preserved c =
    let h : c.loop-byte.byte-index < length c.loop-byte.bytes = omega arith in
    let next = one_written c.loop-byte.bytes _ c.loop-byte.byte-index _ c.loop-byte.rest _ h refl refl c.loop-byte.invariant in
    simp length-set next
