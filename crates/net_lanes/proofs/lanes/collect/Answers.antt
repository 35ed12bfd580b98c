use Rattle.net_lanes.proofs.Placed.{collected_means}
use Rattle.net_lanes.proofs.lanes.collect.Goals as goal

pub returns-clause-value : goal.returns-clause-value
returns-clause-value c = collected_means _ _ c.args.collected c.in_ok-lane.lane c.in_ok-all.all c.args.wire c.args.index c.in_ok-all.ensures.adds c.in_ok-lane.ensures.value c.in_ok-all.ensures.value
