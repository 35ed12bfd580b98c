use Rattle.net_build.proofs.Steps.{adds_adds, wire_adds}
use Rattle.net_lanes.proofs.Tabled.{picked_means}
use Rattle.net_lanes.proofs.lanes.pick_lane.Goals as goal

pub read_entry-requires-clause-index : goal.read_entry-requires-clause-index
read_entry-requires-clause-index c = wire_adds _ _ c.args.index c.in_ok-lanes.ensures.adds c.requires.index.0

pub returns-clause-adds : goal.returns-clause-adds
returns-clause-adds c = adds_adds _ _ _ c.in_ok-lanes.ensures.adds c.in_ok-lane.ensures.adds

pub returns-clause-value : goal.returns-clause-value
returns-clause-value c = picked_means _ _ c.args.unit c.args.count _ c.in_ok-lanes.lanes c.as_slice.result.now c.in_ok-lane.lane c.args.index c.in_ok-lane.ensures.adds c.in_ok-lanes.ensures.lanes c.as_slice.ensures (wire_adds _ _ c.args.index c.in_ok-lanes.ensures.adds c.requires.index.0) c.requires.index.1 c.in_ok-lane.ensures.value
