use Rattle.tl_edge.proofs.Ways.{ways_law}
use Rattle.tl_edge.proofs.plan.ways_law.Goals as goal

pub returns : goal.returns
returns c = ways_law
