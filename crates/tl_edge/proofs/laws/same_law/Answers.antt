use Rattle.tl_edge.proofs.Reading.{same_law}
use Rattle.tl_edge.proofs.laws.same_law.Goals as goal

pub returns : goal.returns
returns c = same_law
