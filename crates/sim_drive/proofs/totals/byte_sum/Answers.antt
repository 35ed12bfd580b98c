use Rattle.std.proofs.Common.{arith}
use Rattle.sim_drive.specs.Totals.{byte_sum}
use Rattle.sim_drive.proofs.Summing.{one_byte_more}
use Rattle.sim_drive.proofs.totals.byte_sum.Goals as goal

pub loop-place-preserved : goal.loop-place-preserved
loop-place-preserved c = record {
  sum = one_byte_more c.loop-place._place c.loop-place.sum c.loop-place.rest (byte_sum 8 c.args.number) c.loop-place-test.true c.loop-place.invariant.sum;
  few = omega arith;
}
