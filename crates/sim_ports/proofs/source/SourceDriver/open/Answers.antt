use Rattle.sim_ports.proofs.Onward.{sends_nothing}
use Rattle.sim_ports.proofs.source.SourceDriver.«open».Goals as goal

pub returns : goal.returns
returns c = sends_nothing _ c.in_ok-filled.field-0 c.requires.requests c.in_ok-filled.ensures
