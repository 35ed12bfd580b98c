use Rattle.tl_edge.proofs.Cuts.{more_law}
use Rattle.tl_edge.proofs.laws.more_law.Goals as goal

pub returns : goal.returns
returns c = more_law
