use Rattle.tl_edge.proofs.Cuts.{prefix_law}
use Rattle.tl_edge.proofs.laws.prefix_law.Goals as goal

pub returns : goal.returns
returns c = prefix_law
