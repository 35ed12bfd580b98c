use Rattle.std.proofs.Common.{◌≡◌, ℕ, ◌*◌, ◌-◌, ◌^◌, arith, ap, sym, ◌∙◌}
use Rattle.net_turns.proofs.Laned.{cut}
use Rattle.net_turns.proofs.lanes.narrow.Goals as goal

pub pick_lane-requires-clause-all : goal.pick_lane-requires-clause-all
pick_lane-requires-clause-all c = c.requires.wire.1 ∙ ap (λ (n : ℕ). c.args.unit * n) (sym c.lane_count-count.ensures)

pub pick_lane-requires-clause-index : goal.pick_lane-requires-clause-index
pick_lane-requires-clause-index c =
    let e : c.args.buses.wide - c.args.buses.narrow ≡ c.args.turn.now.counted.lane.width = omega (arith, c.requires.turn.counted.lane_wide) in
    (c.requires.turn.counted.lane, c.lane_count-count.ensures ∙ ap (λ (n : ℕ). 2 ^ n) e)

pub returns-clause-turned : goal.returns-clause-turned
returns-clause-turned c = cut _ c.args.turn.now c.args.unit c.args.wire c.in_ok-lanes.lanes c.in_ok-lanes.ensures.value
