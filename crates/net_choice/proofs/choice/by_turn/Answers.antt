use Rattle.net_build.proofs.Steps.{bit_adds}
use Rattle.net_choice.proofs.Chained.{round_any, round_tells}
use Rattle.net_choice.proofs.choice.by_turn.Goals as goal

pub returns-clause-grants : goal.returns-clause-grants
returns-clause-grants c =
    round_tells _ _ _ _ _ _ c.args.ready c.args.full c.in_ok-early.early.seen c.args.late.now c.args.may.now c.in_ok-lates.lates c.in_ok-early.early.wires c.in_ok-all.all.wires c.in_ok-grants.grants c.as_slice.result.now c.as_slice-2.result.now c.as_slice-3.result.now
    c.in_ok-lates.ensures.adds c.in_ok-early.ensures.adds c.in_ok-all.ensures.adds c.in_ok-some.ensures.adds c.in_ok-grants.ensures.adds c.requires.long c.requires.full c.in_ok-lates.ensures.tells
    c.as_slice.ensures c.in_ok-early.ensures.shows c.in_ok-early.ensures.tells c.in_ok-all.ensures.shows c.as_slice-2.ensures c.as_slice-3.ensures c.in_ok-grants.ensures.tells

pub returns-clause-some : goal.returns-clause-some
returns-clause-some c =
    round_any _ _ _ _ _ _ c.args.ready c.args.full c.in_ok-early.early.seen c.in_ok-all.all.seen c.in_ok-some.some c.args.late.now c.args.may.now c.in_ok-lates.lates c.in_ok-grants.grants c.as_slice.result.now
    c.in_ok-lates.ensures.adds c.in_ok-early.ensures.adds c.in_ok-all.ensures.adds c.in_ok-some.ensures.adds c.in_ok-grants.ensures.adds c.requires.long c.requires.full c.in_ok-lates.ensures.tells
    c.as_slice.ensures c.in_ok-early.ensures.tells c.in_ok-all.ensures.tells c.in_ok-some.ensures.tells
    (round_tells _ _ _ _ _ _ c.args.ready c.args.full c.in_ok-early.early.seen c.args.late.now c.args.may.now c.in_ok-lates.lates c.in_ok-early.early.wires c.in_ok-all.all.wires c.in_ok-grants.grants c.as_slice.result.now c.as_slice-2.result.now c.as_slice-3.result.now
    c.in_ok-lates.ensures.adds c.in_ok-early.ensures.adds c.in_ok-all.ensures.adds c.in_ok-some.ensures.adds c.in_ok-grants.ensures.adds c.requires.long c.requires.full c.in_ok-lates.ensures.tells
    c.as_slice.ensures c.in_ok-early.ensures.shows c.in_ok-early.ensures.tells c.in_ok-all.ensures.shows c.as_slice-2.ensures c.as_slice-3.ensures c.in_ok-grants.ensures.tells)

pub returns-clause-bits : goal.returns-clause-bits
returns-clause-bits c = (bit_adds _ _ c.in_ok-some.some c.in_ok-grants.ensures.adds c.in_ok-some.ensures.bit, c.in_ok-grants.ensures.bits)
