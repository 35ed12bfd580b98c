use Rattle.std.proofs.Common.{sym, ◌∙◌}
use Rattle.net_build.proofs.Steps.{adds_adds, bit_adds, wire_adds}
use Rattle.net_sides.proofs.Parts.{lanes_are}
use Rattle.net_sides.proofs.puts.request_lanes.Goals as goal

pub active_lanes_of-requires-clause-wires : goal.active_lanes_of-requires-clause-wires
active_lanes_of-requires-clause-wires c = (c.requires.head.size, c.requires.head.address)

pub mux-requires-clause-pick : goal.mux-requires-clause-pick
mux-requires-clause-pick c = bit_adds _ _ c.args.head.now.loaded c.in_ok-active.ensures.adds c.requires.head.loaded

pub mux-requires-clause-wires : goal.mux-requires-clause-wires
mux-requires-clause-wires c = (wire_adds _ _ c.args.mask c.in_ok-active.ensures.adds c.requires.mask.0, c.in_ok-active.ensures.wire.0)

pub mux-requires-clause-width : goal.mux-requires-clause-width
mux-requires-clause-width c = c.in_ok-active.ensures.wire.1 ∙ sym c.requires.mask.1

pub data_of-requires-clause-loaded : goal.data_of-requires-clause-loaded
data_of-requires-clause-loaded c = bit_adds _ _ c.args.head.now.loaded (adds_adds _ _ _ c.in_ok-active.ensures.adds c.in_ok-out.ensures.adds) c.requires.head.loaded

pub data_of-requires-clause-wire : goal.data_of-requires-clause-wire
data_of-requires-clause-wire c = wire_adds _ _ c.args.payload (adds_adds _ _ _ c.in_ok-active.ensures.adds c.in_ok-out.ensures.adds) c.requires.payload

pub returns-clause-adds : goal.returns-clause-adds
returns-clause-adds c = adds_adds _ _ _ c.in_ok-active.ensures.adds (adds_adds _ _ _ c.in_ok-out.ensures.adds c.in_ok-data.ensures.adds)

pub returns-clause-wires : goal.returns-clause-wires
returns-clause-wires c = (wire_adds _ _ c.in_ok-out.out c.in_ok-data.ensures.adds c.in_ok-out.ensures.wire.0, c.in_ok-data.ensures.wire)

pub returns-clause-lanes : goal.returns-clause-lanes
returns-clause-lanes c =
    let g2 = c.in_ok-data.ensures.adds in
    let g1 = adds_adds _ _ _ c.in_ok-out.ensures.adds g2 in
    lanes_are _ _ _ c.args.width c.args.head.now c.args.mask c.args.payload c.in_ok-active.active c.in_ok-out.out c.in_ok-data.data g1.later g2.later c.in_ok-active.ensures.value c.in_ok-out.ensures.value c.in_ok-data.ensures.value
