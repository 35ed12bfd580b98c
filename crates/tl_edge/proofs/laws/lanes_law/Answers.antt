use Rattle.tl_edge.proofs.LaneByLane.{lanes_law}
use Rattle.tl_edge.proofs.laws.lanes_law.Goals as goal

pub returns : goal.returns
returns c = lanes_law
