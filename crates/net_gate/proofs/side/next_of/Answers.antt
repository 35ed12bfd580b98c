use Rattle.std.proofs.Common.{◌∙◌, sym, ap, length}
use Rattle.net_build.proofs.Folded.{bits_adds}
use Rattle.net_build.proofs.Steps.{adds_adds, bit_adds, tells_adds, wire_adds}
use Rattle.net_gate.proofs.AfterGrants.{after_is, shape_is}
use Rattle.net_gate.proofs.side.next_of.Goals as goal

pub next_left-requires-clause-wires : goal.next_left-requires-clause-wires
next_left-requires-clause-wires c = (wire_adds _ _ c.args.now.now.left c.in_ok-rest.ensures.adds c.requires.shape.left, c.in_ok-rest.ensures.wire.0)

pub next_left-requires-clause-bits : goal.next_left-requires-clause-bits
next_left-requires-clause-bits c = (bit_adds _ _ c.args.unlocked c.in_ok-rest.ensures.adds c.requires.unlocked.0, bit_adds _ _ c.args.valid c.in_ok-rest.ensures.adds c.requires.grants.0)

pub next_left-requires-clause-unlocked : goal.next_left-requires-clause-unlocked
next_left-requires-clause-unlocked c = tells_adds _ _ c.args.unlocked _ c.in_ok-rest.ensures.adds c.requires.unlocked.1

pub switch-requires-clause-pick : goal.switch-requires-clause-pick
switch-requires-clause-pick c = bit_adds _ _ c.args.valid (adds_adds _ _ _ c.in_ok-rest.ensures.adds c.in_ok-left.ensures.adds) c.requires.grants.0

pub switch-requires-clause-xs : goal.switch-requires-clause-xs
switch-requires-clause-xs c = bits_adds _ _ c.args.grants.now (adds_adds _ _ _ c.in_ok-rest.ensures.adds c.in_ok-left.ensures.adds) c.requires.grants.1

pub switch-requires-clause-ys : goal.switch-requires-clause-ys
switch-requires-clause-ys c = rw c.as_slice.ensures (bits_adds _ _ c.args.now.now.mine (adds_adds _ _ _ c.in_ok-rest.ensures.adds c.in_ok-left.ensures.adds) c.requires.shape.mine)

pub begins_one-requires : goal.begins_one-requires
begins_one-requires c =
    let g = adds_adds _ _ _ (adds_adds _ _ _ c.in_ok-rest.ensures.adds c.in_ok-left.ensures.adds) c.in_ok-mine.ensures.adds in
    (bit_adds _ _ c.args.valid g c.requires.grants.0, bit_adds _ _ c.args.unlocked g c.requires.unlocked.0)

pub next_late-requires-clause-grants : goal.next_late-requires-clause-grants
next_late-requires-clause-grants c =
    let g = adds_adds _ _ _ (adds_adds _ _ _ (adds_adds _ _ _ c.in_ok-rest.ensures.adds c.in_ok-left.ensures.adds) c.in_ok-mine.ensures.adds) c.in_ok-begins.ensures.adds in
    bits_adds _ _ c.args.grants.now g c.requires.grants.1

pub next_late-requires-clause-late : goal.next_late-requires-clause-late
next_late-requires-clause-late c =
    let g = adds_adds _ _ _ (adds_adds _ _ _ (adds_adds _ _ _ c.in_ok-rest.ensures.adds c.in_ok-left.ensures.adds) c.in_ok-mine.ensures.adds) c.in_ok-begins.ensures.adds in
    rw c.as_slice-2.ensures (bits_adds _ _ c.args.now.now.late g c.requires.shape.late)

pub returns-clause-adds : goal.returns-clause-adds
returns-clause-adds c = adds_adds _ _ _ (adds_adds _ _ _ (adds_adds _ _ _ (adds_adds _ _ _ c.in_ok-rest.ensures.adds c.in_ok-left.ensures.adds) c.in_ok-mine.ensures.adds) c.in_ok-begins.ensures.adds) c.in_ok-late.ensures.adds

pub returns-clause-shape : goal.returns-clause-shape
returns-clause-shape c = shape_is _ _ _ _ _ c.args.round (length c.args.grants.now) c.args.now.now.left.width c.args.now.now c.in_ok-left.left c.in_ok-mine.mine c.in_ok-late.late c.in_ok-mine.ensures.adds c.in_ok-begins.ensures.adds c.in_ok-late.ensures.adds
    c.in_ok-left.ensures.wire.0 c.in_ok-left.ensures.wire.1 c.in_ok-mine.ensures.bits c.in_ok-mine.ensures.long c.in_ok-late.ensures.bits (c.in_ok-late.ensures.long ∙ ap length c.as_slice-2.ensures) c.requires.shape

pub returns-clause-next : goal.returns-clause-next
returns-clause-next c = after_is _ _ _ _ _ _ c.args.round c.args.now.now c.args.grants.now c.args.valid c.args.unlocked c.in_ok-rest.rest c.in_ok-left.left c.in_ok-begins.begins c.in_ok-mine.mine c.in_ok-late.late c.args.rests.now
    c.in_ok-rest.ensures.adds c.in_ok-left.ensures.adds c.in_ok-mine.ensures.adds c.in_ok-begins.ensures.adds c.in_ok-late.ensures.adds
    c.requires.unlocked.1 c.in_ok-rest.ensures.value c.in_ok-left.ensures.value (rw (sym c.as_slice.ensures) c.in_ok-mine.ensures.tells) c.in_ok-begins.ensures.tells (rw (sym c.as_slice-2.ensures) c.in_ok-late.ensures.tells)
