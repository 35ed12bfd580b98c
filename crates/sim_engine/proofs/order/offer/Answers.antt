use Rattle.std.proofs.Common.{rules}
use Rattle.sim_engine.proofs.Walking.{offered}
use Rattle.sim_engine.proofs.order.offer.Goals as goal

pub returns-in_ok-close-in-None : goal.returns-in_ok-close-in-None
returns-in_ok-close-in-None c =
    offered c.args.netlist.now c.args.walk.now c.close.new.walk c.args.place c.requires.stands c.requires.idle (search rules) (search rules) c.in-None.ensures
    c.in_ok-close-in-None.ensures.marks c.in_ok-close-in-None.ensures.order c.in_ok-close-in-None.ensures.stack
