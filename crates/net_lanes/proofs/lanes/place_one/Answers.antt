use Rattle.net_lanes.proofs.Placed.{placed_means}
use Rattle.net_lanes.proofs.lanes.place_one.Goals as goal

pub returns-clause-value : goal.returns-clause-value
returns-clause-value c = placed_means _ _ c.in_ok-lane.lane c.args.lanes c.in_ok-more.more c.args.wire c.args.index c.args.place c.in_ok-more.ensures.adds c.in_ok-lane.ensures.wire.1 c.in_ok-lane.ensures.value c.in_ok-more.ensures.value
