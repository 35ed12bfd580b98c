use Rattle.std.proofs.Common.{refl}
use Rattle.sim_drive.proofs.Sharing.{bytes_one_more, size_below}
use Rattle.sim_drive.proofs.preparing.add_bytes.Goals as goal

pub overflow_shl-number-end : goal.overflow_shl-number-end
overflow_shl-number-end c = size_below c.args.request.now.address c.args.request.now.size c.requires

pub loop-number-preserved : goal.loop-number-preserved
loop-number-preserved c =
    bytes_one_more c.args.list.now.items c.loop-number.list.items c.push.new.self.items c.args.request.now.address c.loop-number.number _ c.in_ok-push.ensures.items refl c.loop-number.invariant
