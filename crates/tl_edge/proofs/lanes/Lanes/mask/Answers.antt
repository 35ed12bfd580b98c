use Rattle.tl_edge.proofs.Digits.{ones_on_lanes}
use Rattle.tl_edge.proofs.lanes.Lanes.mask.Goals as goal

pub returns : goal.returns
returns c = ones_on_lanes c.args.self.now.first c.args.self.now.count c.requires
