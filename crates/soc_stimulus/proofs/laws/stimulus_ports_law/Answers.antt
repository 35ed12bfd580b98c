use Rattle.soc_stimulus.proofs.PortsThere.{ports_law}
use Rattle.soc_stimulus.proofs.laws.stimulus_ports_law.Goals as goal

pub returns : goal.returns
returns c = ports_law
