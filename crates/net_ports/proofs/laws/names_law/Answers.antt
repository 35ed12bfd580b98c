use Rattle.net_ports.proofs.Differing.{names_differ}
use Rattle.net_ports.proofs.laws.names_law.Goals as goal

pub returns : goal.returns
returns c = names_differ
