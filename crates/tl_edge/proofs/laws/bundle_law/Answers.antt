use Rattle.tl_edge.proofs.Holding.{bundle_law}
use Rattle.tl_edge.proofs.laws.bundle_law.Goals as goal

pub returns : goal.returns
returns c = bundle_law
