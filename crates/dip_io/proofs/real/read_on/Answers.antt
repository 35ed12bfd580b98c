use Rattle.std.proofs.Common.{arith}
use Rattle.std.proofs.KnownBytes.{Consumes-more}
use Rattle.std.proofs.Transfers.{starts_with_trans}
use Rattle.dip_io.proofs.real.read_on.Goals as goal

pub loop-left-preserved : goal.loop-left-preserved
loop-left-preserved g c =
    let before = c.loop-left.invariant in
    let chunk = c.in_ok-count.ensures in
    record {
      kept = starts_with_trans _ _ _ chunk.kept before.kept;
      count = omega (arith, before.count, chunk.count, chunk.within);
      bytes = Consumes-more _ _ _ _ _ _ before.kept chunk.kept before.bytes chunk.bytes;
    }
