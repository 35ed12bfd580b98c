use Rattle.sim_engine.proofs.Walking.{goes_back}
use Rattle.sim_engine.proofs.order.advance.Goals as goal

pub returns-in_ok-close-in-None : goal.returns-in_ok-close-in-None
returns-in_ok-close-in-None c =
    goes_back c.args.netlist.now c.args.walk.now c.close.new.walk c.args.top c.requires.stands c.in-None.ensures
    c.in_ok-close-in-None.ensures.marks c.in_ok-close-in-None.ensures.order c.in_ok-close-in-None.ensures.stack
