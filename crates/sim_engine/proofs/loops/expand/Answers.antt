use Rattle.std.proofs.Common.{ap, ◌∙◌}
use Rattle.sim_engine.specs.Steps.{three}
use Rattle.sim_engine.proofs.Reaching.{may_all, ready_known}
use Rattle.sim_engine.proofs.loops.expand.Goals as goal

pub find_all-requires-clause-may : goal.find_all-requires-clause-may
find_all-requires-clause-may c =
    may_all c.args.netlist.now c.requires.well c.args.start c.args.place c.three-nets.result (c.three-nets.ensures ∙ ap three c.op_at.ensures) c.requires.exists c.requires.on

pub returns-clause-ready : goal.returns-clause-ready
returns-clause-ready c =
    ready_known c.args.netlist.now c.find_all.new.reach.found.items c.args.place c.three-nets.result (c.three-nets.ensures ∙ ap three c.op_at.ensures) c.in_ok-find_all.ensures.known
