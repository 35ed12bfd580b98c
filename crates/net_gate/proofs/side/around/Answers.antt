use Rattle.std.proofs.Common.{◌∙◌, sym, ap, length, subst}
use Rattle.net_build.proofs.Folded.{bits_adds}
use Rattle.net_build.proofs.Steps.{adds_adds, bit_adds, tells_adds}
use Rattle.net_gate.specs.Built.{HasSideShape}
use Rattle.net_gate.proofs.AfterGrants.{cycle_is, shape_adds}
use Rattle.net_table.proofs.Indexed.{entries_later}
use Rattle.net_gate.proofs.side.around.Goals as goal

pub decide-requires-clause-bits : goal.decide-requires-clause-bits
decide-requires-clause-bits c = (c.in_ok-unlocked.ensures.bit, bit_adds _ _ c.args.ready c.in_ok-unlocked.ensures.adds c.requires.bits.0)

pub decide-requires-clause-mine : goal.decide-requires-clause-mine
decide-requires-clause-mine c = bits_adds _ _ c.args.now.now.mine c.in_ok-unlocked.ensures.adds c.requires.shape.mine

pub decide-requires-clause-late : goal.decide-requires-clause-late
decide-requires-clause-late c = bits_adds _ _ c.args.now.now.late c.in_ok-unlocked.ensures.adds c.requires.shape.late

pub decide-requires-clause-wants : goal.decide-requires-clause-wants
decide-requires-clause-wants c = bits_adds _ _ c.args.wants.now c.in_ok-unlocked.ensures.adds c.requires.bits.1

pub next_of-requires-clause-rests : goal.next_of-requires-clause-rests
next_of-requires-clause-rests c =
    let g = adds_adds _ _ _ c.in_ok-unlocked.ensures.adds c.in_ok-granted.ensures.adds in
    (entries_later _ _ c.args.now.now.left.width c.args.rests.now g.later c.requires.rests.0, c.requires.rests.1 ∙ sym (ap length c.as_slice.ensures ∙ c.in_ok-granted.ensures.long))

pub next_of-requires-clause-grants : goal.next_of-requires-clause-grants
next_of-requires-clause-grants c = (c.in_ok-granted.ensures.bits.0, rw c.as_slice.ensures c.in_ok-granted.ensures.bits.1)

pub next_of-requires-clause-unlocked : goal.next_of-requires-clause-unlocked
next_of-requires-clause-unlocked c =
    let g = c.in_ok-granted.ensures.adds in
    (bit_adds _ _ c.in_ok-unlocked.unlocked g c.in_ok-unlocked.ensures.bit, tells_adds _ _ c.in_ok-unlocked.unlocked _ g c.in_ok-unlocked.ensures.tells)

pub next_of-requires-clause-shape : goal.next_of-requires-clause-shape
next_of-requires-clause-shape c =
    let g = adds_adds _ _ _ c.in_ok-unlocked.ensures.adds c.in_ok-granted.ensures.adds in
    subst (λ n. HasSideShape c.decide.new.builder c.args.round n c.args.now.now.left.width c.args.now.now) (sym (ap length c.as_slice.ensures ∙ c.in_ok-granted.ensures.long)) (shape_adds _ _ c.args.round _ _ c.args.now.now g c.requires.shape)

pub returns-clause-adds : goal.returns-clause-adds
returns-clause-adds c = adds_adds _ _ _ (adds_adds _ _ _ c.in_ok-unlocked.ensures.adds c.in_ok-granted.ensures.adds) c.in_ok-next.ensures.adds

pub returns-clause-shape : goal.returns-clause-shape
returns-clause-shape c = subst (λ n. HasSideShape c.next_of.new.builder c.args.round n c.args.now.now.left.width c.in_ok-next.next) (ap length c.as_slice.ensures ∙ c.in_ok-granted.ensures.long) c.in_ok-next.ensures.shape

pub returns-clause-bits : goal.returns-clause-bits
returns-clause-bits c = (bit_adds _ _ c.in_ok-granted.granted.some c.in_ok-next.ensures.adds c.in_ok-granted.ensures.bits.0, bits_adds _ _ c.in_ok-granted.granted.grants c.in_ok-next.ensures.adds c.in_ok-granted.ensures.bits.1)

pub returns-clause-cycle : goal.returns-clause-cycle
returns-clause-cycle c = cycle_is _ _ _ c.args.round c.args.wants.now c.args.ready c.args.rests.now c.args.now.now c.in_ok-next.next c.in_ok-unlocked.unlocked c.in_ok-granted.granted.some c.in_ok-granted.granted.grants c.as_slice.result.now
    c.in_ok-granted.ensures.adds c.in_ok-next.ensures.adds c.in_ok-unlocked.ensures.tells c.in_ok-granted.ensures.grants c.in_ok-granted.ensures.some c.as_slice.ensures c.in_ok-next.ensures.next
