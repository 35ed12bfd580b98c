use Rattle.std.proofs.Common.{arith}
use Rattle.net_build.proofs.Steps.{adds_adds, bit_adds, wire_adds}
use Rattle.net_turns.proofs.Turning.{counted_is}
use Rattle.net_turns.proofs.heads.count.Goals as goal

pub place_of-requires-clause-address : goal.place_of-requires-clause-address
place_of-requires-clause-address c = wire_adds _ _ c.args.address c.in_ok-number.ensures.adds c.requires.wires.1

pub place_of-requires-clause-done : goal.place_of-requires-clause-done
place_of-requires-clause-done c = (wire_adds _ _ c.args.done c.in_ok-number.ensures.adds c.requires.done.0, c.requires.done.1)

pub either-requires : goal.either-requires
either-requires c = (bit_adds _ _ c.in_ok-number.number.last c.in_ok-place.ensures.adds c.in_ok-number.ensures.bit, c.in_ok-place.ensures.bit)

pub returns-clause-adds : goal.returns-clause-adds
returns-clause-adds c = adds_adds _ _ _ c.in_ok-number.ensures.adds (adds_adds _ _ _ c.in_ok-place.ensures.adds c.in_ok-ends.ensures.adds)

pub returns-clause-wires : goal.returns-clause-wires
returns-clause-wires c = record {
  ends = c.in_ok-ends.ensures.bit;
  lane = wire_adds _ _ c.in_ok-place.place.lane c.in_ok-ends.ensures.adds c.in_ok-place.ensures.wire.0;
  lane_wide = omega (arith, c.in_ok-place.ensures.wire.1, c.requires.buses.order);
  next = wire_adds _ _ c.in_ok-number.number.next (adds_adds _ _ _ c.in_ok-place.ensures.adds c.in_ok-ends.ensures.adds) c.in_ok-number.ensures.wire.0;
  next_wide = c.in_ok-number.ensures.wire.1;
}

pub returns-clause-counted : goal.returns-clause-counted
returns-clause-counted c =
    let g2 = c.in_ok-ends.ensures.adds in
    let g1 = adds_adds _ _ _ c.in_ok-place.ensures.adds g2 in
    counted_is _ _ _ c.args.buses c.args.size c.args.address c.args.done c.in_ok-number.number.last c.in_ok-number.number.next c.in_ok-place.place.turn c.in_ok-place.place.lane c.in_ok-ends.ends g1.later g2.later
    c.in_ok-number.ensures.last c.in_ok-number.ensures.next c.in_ok-place.ensures.turn c.in_ok-place.ensures.lane c.in_ok-ends.ensures.tells
