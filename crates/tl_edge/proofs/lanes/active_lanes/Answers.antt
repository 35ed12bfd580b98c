use Rattle.tl_edge.proofs.Active.{lanes_fit_word}
use Rattle.tl_edge.proofs.lanes.active_lanes.Goals as goal

pub mask-requires : goal.mask-requires
mask-requires c = lanes_fit_word c.args.width c.args.size c.args.address _ _ c.requires.width c.requires.aligned c.of.ensures.first c.of.ensures.count
