use Rattle.net_top.proofs.Legal.{legal_beats}
use Rattle.net_top.proofs.laws.legal_beats_law.Goals as goal

pub returns : goal.returns
returns c = legal_beats c.heads_law.ensures c.legal_law.ensures c.wires_law.ensures
