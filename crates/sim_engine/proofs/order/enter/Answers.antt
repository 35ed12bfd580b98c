use Rattle.std.proofs.Common.{rules}
use Rattle.sim_engine.proofs.Walking.{goes_on, goes_round}
use Rattle.sim_engine.proofs.order.enter.Goals as goal

pub returns-then-not-is_new : goal.returns-then-not-is_new
returns-then-not-is_new c =
    goes_round c.args.netlist.now c.args.walk.now c.args.top c.args.place c.requires.stands c.requires.waits (search rules)

pub returns : goal.returns
returns c =
    goes_on c.args.netlist.now c.args.walk.now c.open.new.walk c.args.top c.args.place c.requires.stands c.requires.waits (search rules)
    c.in_ok-open.ensures.marks c.in_ok-open.ensures.order (search rules)
