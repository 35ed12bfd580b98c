use Rattle.tl_edge.proofs.Legality.{legal_law}
use Rattle.tl_edge.proofs.laws.legal_law.Goals as goal

pub returns : goal.returns
returns c = legal_law
