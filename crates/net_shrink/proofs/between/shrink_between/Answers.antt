use Rattle.net_build.proofs.OpenedLists.{widths_later}
use Rattle.net_build.proofs.Steps.{adds_adds, bit_adds, wire_adds}
use Rattle.net_queue.proofs.Opening.{open_adds}
use Rattle.net_shrink.proofs.Asked.{may_later, shrunk_is}
use Rattle.net_shrink.proofs.between.shrink_between.Goals as goal

pub ask-requires-clause-may : goal.ask-requires-clause-may
ask-requires-clause-may c = may_later _ _ c.args.count c.args.bus c.args.above.now c.args.below.now c.in_ok-answering.ensures.adds c.requires.may

pub put_with-requires-clause-head : goal.put_with-requires-clause-head
put_with-requires-clause-head c =
    let g = adds_adds _ _ _ c.in_ok-answering.ensures.adds (adds_adds _ _ _ c.in_ok-moves.ensures.adds c.in_ok-built.ensures.adds) in
    widths_later _ _ _ c.args.above.now.a.head g.later c.requires.may.above_a.alike.one

pub put_with-requires-clause-open : goal.put_with-requires-clause-open
put_with-requires-clause-open c =
    let g = adds_adds _ _ _ c.in_ok-answering.ensures.adds (adds_adds _ _ _ c.in_ok-moves.ensures.adds c.in_ok-built.ensures.adds) in
    open_adds _ _ c.args.below.now.a g c.requires.may.below_a

pub put_with-requires-2-clause-valid : goal.put_with-requires-2-clause-valid
put_with-requires-2-clause-valid c =
    bit_adds _ _ c.in_ok-answering.answering.goes (adds_adds _ _ _ c.in_ok-moves.ensures.adds (adds_adds _ _ _ c.in_ok-built.ensures.adds c.in_ok-down.ensures.adds)) c.in_ok-answering.ensures.bits.0

pub put_with-requires-2-clause-head : goal.put_with-requires-2-clause-head
put_with-requires-2-clause-head c =
    let g = adds_adds _ _ _ c.in_ok-answering.ensures.adds (adds_adds _ _ _ c.in_ok-moves.ensures.adds (adds_adds _ _ _ c.in_ok-built.ensures.adds c.in_ok-down.ensures.adds)) in
    widths_later _ _ _ c.args.below.now.d.head g.later c.requires.may.below_d.alike.one

pub put_with-requires-2-clause-wire : goal.put_with-requires-2-clause-wire
put_with-requires-2-clause-wire c = wire_adds _ _ c.in_ok-built.built.wires.old c.in_ok-down.ensures.adds c.in_ok-built.ensures.wires.old.wire

pub put_with-requires-2-clause-open : goal.put_with-requires-2-clause-open
put_with-requires-2-clause-open c =
    let g = adds_adds _ _ _ c.in_ok-answering.ensures.adds (adds_adds _ _ _ c.in_ok-moves.ensures.adds (adds_adds _ _ _ c.in_ok-built.ensures.adds c.in_ok-down.ensures.adds)) in
    open_adds _ _ c.args.above.now.d g c.requires.may.above_d

pub returns-clause-adds : goal.returns-clause-adds
returns-clause-adds c =
    adds_adds _ _ _ c.in_ok-answering.ensures.adds (adds_adds _ _ _ c.in_ok-moves.ensures.adds (adds_adds _ _ _ c.in_ok-built.ensures.adds (adds_adds _ _ _ c.in_ok-down.ensures.adds c.in_ok-up.ensures.adds)))

pub returns-clause-shrunk : goal.returns-clause-shrunk
returns-clause-shrunk c =
    shrunk_is _ _ _ _ _ _ c.args.count c.args.bus c.args.above.now c.args.below.now c.in_ok-answering.answering c.in_ok-moves.moves c.in_ok-built.built.slots c.in_ok-built.built.wires c.in_ok-down.down c.in_ok-up.up _ _
    c.in_ok-moves.ensures.adds c.in_ok-built.ensures.adds c.in_ok-down.ensures.adds c.in_ok-up.ensures.adds c.requires.may c.as_slice-back.ensures
    c.in_ok-answering.ensures.answering c.in_ok-moves.ensures.asked c.in_ok-built.ensures.slots c.in_ok-built.ensures.tell
    c.in_ok-down.ensures.valid c.in_ok-down.ensures.into c.in_ok-down.ensures.keeps c.in_ok-up.ensures.valid c.in_ok-up.ensures.into c.in_ok-up.ensures.keeps
