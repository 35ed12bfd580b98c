use Rattle.net_build.proofs.Steps.{adds_adds, bit_adds, bit_later, later_later, wire_adds, wire_later}
use Rattle.net_slots.proofs.Counted.{alone_driven, counts}
use Rattle.net_slots.proofs.counter.count_left.Goals as goal

pub next_left-requires-clause-wires : goal.next_left-requires-clause-wires
next_left-requires-clause-wires c =
    let g = c.in_ok-idle.ensures.adds in
    (wire_adds _ _ c.in_ok-left.left g c.in_ok-left.ensures.wire.0, wire_adds _ _ c.args.rest g (wire_later _ _ c.args.rest c.in_ok-left.ensures.opens.later c.requires.rest))

pub next_left-requires-clause-bits : goal.next_left-requires-clause-bits
next_left-requires-clause-bits c = (c.in_ok-idle.ensures.bit, bit_adds _ _ c.args.go c.in_ok-idle.ensures.adds (bit_later _ _ c.args.go c.in_ok-left.ensures.opens.later c.requires.go))

pub drive-requires-clause-next : goal.drive-requires-clause-next
drive-requires-clause-next c = wire_adds _ _ c.in_ok-next.next c.in_ok-ends.ensures.adds c.in_ok-next.ensures.wire.0

pub returns-clause-adds : goal.returns-clause-adds
returns-clause-adds c =
    alone_driven _ _ _ _ c.in_ok-left.left c.in_ok-left.ensures.opens
    (adds_adds _ _ _ c.in_ok-idle.ensures.adds (adds_adds _ _ _ c.in_ok-next.ensures.adds c.in_ok-ends.ensures.adds)) c.in_ok-drive.ensures.drives

pub returns-clause-bit : goal.returns-clause-bit
returns-clause-bit c = bit_later _ _ c.in_ok-ends.ends c.in_ok-drive.ensures.drives.later c.in_ok-ends.ensures.bit

pub returns-clause-counter : goal.returns-clause-counter
returns-clause-counter c =
    let l4 = c.in_ok-drive.ensures.drives.later in
    let l3 = later_later _ _ _ c.in_ok-ends.ensures.adds.later l4 in
    let l1 = later_later _ _ _ (adds_adds _ _ _ c.in_ok-idle.ensures.adds c.in_ok-next.ensures.adds).later l3 in
    counts _ _ _ _ c.args.go c.args.rest c.in_ok-left.left c.in_ok-next.next c.in_ok-ends.ends c.in_ok-left.ensures.undriven l1 l3 l4 c.in_ok-next.ensures.value c.in_ok-ends.ensures.tells c.in_ok-drive.ensures.becomes
