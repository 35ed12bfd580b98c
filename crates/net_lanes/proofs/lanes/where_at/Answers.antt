use Rattle.net_lanes.proofs.Placed.{here_means}
use Rattle.net_lanes.proofs.lanes.where_at.Goals as goal

pub returns-clause-value : goal.returns-clause-value
returns-clause-value c = here_means _ _ _ c.in_ok-at.at c.in_ok-none.none c.args.wire c.args.index c.in_ok-lane.lane c.args.place c.in_ok-none.ensures.adds c.in_ok-lane.ensures.adds c.in_ok-at.ensures.tells c.in_ok-none.ensures.value c.in_ok-lane.ensures.value
