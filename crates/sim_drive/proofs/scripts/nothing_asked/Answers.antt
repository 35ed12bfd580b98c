use Rattle.sim_drive.proofs.Scripted.{nothing_more}
use Rattle.sim_drive.proofs.scripts.nothing_asked.Goals as goal

pub loop-preserved : goal.loop-preserved
loop-preserved c =
    nothing_more c.loop.counter c.loop.lists.items c.push.new.self.items _ c.loop.invariant c.new.ensures c.new-in-loop.ensures c.in_ok-push.ensures.items
