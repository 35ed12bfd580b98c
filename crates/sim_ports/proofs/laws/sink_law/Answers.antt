use Rattle.sim_ports.proofs.Serves.{sink_law}
use Rattle.sim_ports.proofs.laws.sink_law.Goals as goal

pub returns : goal.returns
returns c = sink_law
