use Rattle.tl_edge.proofs.LaneByLane.{active_law}
use Rattle.tl_edge.proofs.laws.active_law.Goals as goal

pub returns : goal.returns
returns c = active_law
