use Rattle.net_lanes.proofs.Cut.{low_cut}
use Rattle.net_lanes.proofs.bits.cut_off.Goals as goal

pub returns-clause-value : goal.returns-clause-value
returns-clause-value c = low_cut _ c.args.wire c.in_ok-low.low c.args.width c.requires.width.0 c.in_ok-low.ensures.value
