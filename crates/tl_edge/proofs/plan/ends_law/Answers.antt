use Rattle.tl_edge.proofs.Ways.{ends_law}
use Rattle.tl_edge.proofs.plan.ends_law.Goals as goal

pub returns : goal.returns
returns c = ends_law
