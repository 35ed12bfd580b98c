use Rattle.net_build.proofs.Steps.{adds_adds, tells_adds}
use Rattle.net_lanes.proofs.Begins.{lane_placed, turn_placed}
use Rattle.net_lanes.proofs.places.place_of.Goals as goal

pub returns-clause-turn : goal.returns-clause-turn
returns-clause-turn c = tells_adds _ _ c.in_ok-turn.turn _ c.in_ok-lane.ensures.adds (turn_placed _ _ c.in_ok-begin.begin c.in_ok-turn.turn c.args.address c.args.done c.args.buses c.in_ok-turn.ensures.adds c.in_ok-begin.ensures.value c.in_ok-turn.ensures.tells)

pub returns-clause-lane : goal.returns-clause-lane
returns-clause-lane c = lane_placed _ _ c.in_ok-begin.begin c.in_ok-lane.lane c.args.address c.args.done c.args.buses (adds_adds _ _ _ c.in_ok-turn.ensures.adds c.in_ok-lane.ensures.adds) c.in_ok-begin.ensures.value c.in_ok-lane.ensures.value
