use Rattle.tl_edge.proofs.Cuts.{next_law}
use Rattle.tl_edge.proofs.laws.next_law.Goals as goal

pub returns : goal.returns
returns c = next_law
