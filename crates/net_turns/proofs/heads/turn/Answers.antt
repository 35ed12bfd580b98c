use Rattle.net_build.proofs.Steps.{adds_adds, bit_adds, wire_adds}
use Rattle.net_turns.proofs.Turning.{counted_wires_later, turn_is}
use Rattle.net_turns.proofs.heads.turn.Goals as goal

pub uses_up-requires : goal.uses_up-requires
uses_up-requires c = (bit_adds _ _ c.args.head.now.loaded c.in_ok-counted.ensures.adds c.requires.head.loaded, c.in_ok-counted.ensures.wires.ends)

pub pass-requires : goal.pass-requires
pass-requires c =
    let g = adds_adds _ _ _ c.in_ok-counted.ensures.adds c.in_ok-last.ensures.adds in
    record { bits = (bit_adds _ _ c.args.head.now.valid g c.requires.head.valid, bit_adds _ _ c.args.head.now.room g c.requires.head.room, c.in_ok-last.ensures.bit) }

pub both-requires : goal.both-requires
both-requires c =
    let g = adds_adds _ _ _ (adds_adds _ _ _ c.in_ok-counted.ensures.adds c.in_ok-last.ensures.adds) c.in_ok-flow.ensures.adds in
    (c.in_ok-flow.ensures.bits.0, bit_adds _ _ c.args.head.now.loaded g c.requires.head.loaded)

pub go_on-requires-clause-wires : goal.go_on-requires-clause-wires
go_on-requires-clause-wires c =
    let h = adds_adds _ _ _ (adds_adds _ _ _ c.in_ok-last.ensures.adds c.in_ok-flow.ensures.adds) c.in_ok-moves.ensures.adds in
    (wire_adds _ _ c.in_ok-counted.counted.next h c.in_ok-counted.ensures.wires.next, wire_adds _ _ c.args.done (adds_adds _ _ _ c.in_ok-counted.ensures.adds h) c.requires.done.0)

pub go_on-requires-clause-width : goal.go_on-requires-clause-width
go_on-requires-clause-width c = (c.in_ok-counted.ensures.wires.next_wide, c.requires.done.1)

pub returns-clause-adds : goal.returns-clause-adds
returns-clause-adds c =
    adds_adds _ _ _ c.in_ok-counted.ensures.adds (adds_adds _ _ _ c.in_ok-last.ensures.adds (adds_adds _ _ _ c.in_ok-flow.ensures.adds (adds_adds _ _ _ c.in_ok-moves.ensures.adds c.in_ok-next.ensures.adds)))

pub returns-clause-wires : goal.returns-clause-wires
returns-clause-wires c =
    let g4 = c.in_ok-next.ensures.adds in
    let g3 = adds_adds _ _ _ c.in_ok-moves.ensures.adds g4 in
    let g2 = adds_adds _ _ _ c.in_ok-flow.ensures.adds g3 in
    let g1 = adds_adds _ _ _ c.in_ok-last.ensures.adds g2 in
    record {
      counted = counted_wires_later _ _ c.args.buses c.in_ok-counted.counted g1.later c.in_ok-counted.ensures.wires;
      last = bit_adds _ _ c.in_ok-last.last g2 c.in_ok-last.ensures.bit;
      take = bit_adds _ _ c.in_ok-flow.flow.take g3 c.in_ok-flow.ensures.bits.1;
      put = bit_adds _ _ c.in_ok-flow.flow.put g3 c.in_ok-flow.ensures.bits.2;
      made = bit_adds _ _ c.in_ok-flow.flow.made g3 c.in_ok-flow.ensures.bits.0;
      moves = bit_adds _ _ c.in_ok-moves.moves g4 c.in_ok-moves.ensures.bit;
      next = c.in_ok-next.ensures.wire.0;
      next_wide = c.in_ok-next.ensures.wire.1;
    }

pub returns-clause-turn : goal.returns-clause-turn
returns-clause-turn c =
    let g4 = c.in_ok-next.ensures.adds in
    let g3 = adds_adds _ _ _ c.in_ok-moves.ensures.adds g4 in
    let g2 = adds_adds _ _ _ c.in_ok-flow.ensures.adds g3 in
    let g1 = adds_adds _ _ _ c.in_ok-last.ensures.adds g2 in
    turn_is _ _ _ _ _ c.args.buses c.args.widens c.args.head.now c.args.done _ g1.later g2.later g3.later g4.later
    c.in_ok-counted.ensures.counted c.in_ok-last.ensures.tells c.in_ok-flow.ensures.flow c.in_ok-moves.ensures.tells c.in_ok-next.ensures.value
