use Rattle.net_gate.proofs.Stood.{side_is_gate}
use Rattle.net_gate.proofs.laws.gate_law.Goals as goal

pub returns : goal.returns
returns c = side_is_gate
