use Rattle.net_build.proofs.Steps.{adds_adds, bit_adds}
use Rattle.net_shrink.proofs.Followed.{answers}
use Rattle.net_shrink.proofs.lengths.answer.Goals as goal

pub both-requires-2 : goal.both-requires-2
both-requires-2 c = (bit_adds _ _ c.in_ok-goes.goes (adds_adds _ _ _ c.in_ok-rest.ensures.adds c.in_ok-counter.ensures.adds) c.in_ok-goes.ensures.bit, c.in_ok-counter.ensures.bit)

pub returns-clause-bits : goal.returns-clause-bits
returns-clause-bits c =
    (bit_adds _ _ c.in_ok-goes.goes (adds_adds _ _ _ c.in_ok-rest.ensures.adds (adds_adds _ _ _ c.in_ok-counter.ensures.adds c.in_ok-frees.ensures.adds)) c.in_ok-goes.ensures.bit, c.in_ok-frees.ensures.bit)

pub returns-clause-answering : goal.returns-clause-answering
returns-clause-answering c =
    let g3 = c.in_ok-frees.ensures.adds in
    let g2 = adds_adds _ _ _ c.in_ok-counter.ensures.adds g3 in
    let g1 = adds_adds _ _ _ c.in_ok-rest.ensures.adds g2 in
    answers _ _ _ _ c.args.bus c.args.valid c.args.ready c.args.op c.args.size c.in_ok-goes.goes c.in_ok-rest.rest c.in_ok-frees.frees c.in_ok-counter.counter g1.later g2.later g3.later
    c.in_ok-goes.ensures.tells c.in_ok-rest.ensures.follows c.in_ok-counter.ensures.counter c.in_ok-frees.ensures.tells
