use Rattle.net_build.proofs.Steps.{adds_adds, wire_adds}
use Rattle.net_lanes.proofs.Tabled.{tabled_more}
use Rattle.net_lanes.proofs.lanes.cut_all.Goals as goal

pub cut-requires-clause-wire : goal.cut-requires-clause-wire
cut-requires-clause-wire c = wire_adds _ _ c.args.wire c.loop-place.invariant.adds c.requires.wire

pub loop-place-preserved : goal.loop-place-preserved
loop-place-preserved c =
    let i = c.loop-place.invariant in
    let g = c.in_ok-lane.ensures.adds in
    record {
      adds = adds_adds _ _ _ i.adds g;
      lanes = tabled_more _ _ c.args.unit c.loop-place.place _ c.loop-place.out _ c.in_ok-lane.lane g.later i.lanes c.in_ok-lane.ensures.wire.0 c.in_ok-lane.ensures.wire.1 c.in_ok-lane.ensures.value.at c.in_ok-push.ensures.ok;
    }
