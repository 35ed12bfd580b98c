use Rattle.std.proofs.Common.{◌∙◌}
use Rattle.sim_ports.proofs.Onward.{said}
use Rattle.sim_ports.proofs.source.SourceDriver.offer.Goals as goal

pub returns-else-stalled-clause-said : goal.returns-else-stalled-clause-said
returns-else-stalled-clause-said c = λ script history s.
    rw c.if-stalled.false (c.next_beat-beat.ensures ∙ said script history c.args.self.now c.args.cycle s)
