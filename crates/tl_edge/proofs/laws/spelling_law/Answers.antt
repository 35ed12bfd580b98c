use Rattle.tl_edge.proofs.Spelled.{spelling_law}
use Rattle.tl_edge.proofs.laws.spelling_law.Goals as goal

pub returns : goal.returns
returns c = spelling_law
