use Rattle.std.proofs.Common.{rules}
use Rattle.sim_engine.proofs.Reaching.{finds_new}
use Rattle.sim_engine.proofs.loops.find_cell.Goals as goal

pub returns : goal.returns
returns c =
    finds_new c.args.netlist.now c.args.start c.args.reach.now c.put.new.reach c.args.place c.requires.reaches c.requires.exists c.requires.depends (search rules)
    c.in_ok-put.ensures.seen c.in_ok-put.ensures.found
