use Rattle.sim_drive.proofs.Sharing.{empty_more}
use Rattle.sim_drive.proofs.preparing.no_addresses.Goals as goal

pub loop-preserved : goal.loop-preserved
loop-preserved c =
    empty_more c.loop.lists.items c.push.new.self.items c.in_ok-vec.field-0 c.loop.counter c.in_ok-push.ensures.items c.in_ok-vec.ensures.items c.loop.invariant
