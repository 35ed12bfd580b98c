use Rattle.tl_edge.proofs.Heads.{heads_law}
use Rattle.tl_edge.proofs.laws.heads_law.Goals as goal

pub returns : goal.returns
returns c = heads_law
