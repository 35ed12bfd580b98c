use Rattle.net_lanes.proofs.Begins.{index_means}
use Rattle.net_lanes.proofs.places.lane_index.Goals as goal

pub returns-clause-value : goal.returns-clause-value
returns-clause-value c = index_means _ _ c.args.here c.in_ok-lane.lane c.args.buses c.requires.buses c.requires.here.0 c.requires.here.1 c.in_ok-lane.ensures.adds c.in_ok-lane.ensures.value
