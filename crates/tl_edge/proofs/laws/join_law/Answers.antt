use Rattle.tl_edge.proofs.Reading.{join_law}
use Rattle.tl_edge.proofs.laws.join_law.Goals as goal

pub returns : goal.returns
returns c = join_law
