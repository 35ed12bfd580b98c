use Rattle.std.proofs.Common.{arith}
use Rattle.net_build.proofs.Steps.{adds_adds, bit_adds}
use Rattle.net_queue.proofs.Fitted.{adds_same}
use Rattle.net_shrink.proofs.Asked.{asked_is, head_op, head_wire, moves_are}
use Rattle.net_shrink.proofs.between.ask.Goals as goal

pub rest_of_request-requires-clause-op : goal.rest_of_request-requires-clause-op
rest_of_request-requires-clause-op c = head_op _ _ 7 c.args.above.now.a.head _ _ c.in_ok-wants.ensures.adds c.as_slice-head.ensures c.requires.may.request (omega arith)

pub rest_of_request-requires-clause-size : goal.rest_of_request-requires-clause-size
rest_of_request-requires-clause-size c = head_wire _ _ 7 c.args.above.now.a.head _ 2 _ c.in_ok-wants.ensures.adds c.as_slice-head.ensures c.requires.may.request (omega arith)

pub returns-clause-adds : goal.returns-clause-adds
returns-clause-adds c = adds_adds _ _ _ c.in_ok-wants.ensures.adds c.in_ok-rest.ensures.adds

pub returns-clause-wires : goal.returns-clause-wires
returns-clause-wires c =
    let g = adds_adds _ _ _ c.in_ok-wants.ensures.adds c.in_ok-rest.ensures.adds in
    moves_are _ _ c.args.count c.args.bus c.args.above.now c.args.below.now c.in_ok-wants.wants c.in_ok-rest.rest c.args.answering.now.frees _ _ _ g c.requires.may c.as_slice-head.ensures c.as_slice-back.ensures
    (bit_adds _ _ c.in_ok-wants.wants c.in_ok-rest.ensures.adds c.in_ok-wants.ensures.bit) c.in_ok-rest.ensures.wire (bit_adds _ _ c.args.answering.now.frees g c.requires.frees)

pub returns-clause-asked : goal.returns-clause-asked
returns-clause-asked c =
    asked_is _ _ _ _ c.args.count c.args.bus c.args.above.now c.args.below.now c.args.answering.now c.in_ok-wants.wants c.in_ok-rest.rest _ _ _ c.in_ok-rest.ensures.adds (adds_same _) c.requires.may c.as_slice-head.ensures c.as_slice-back.ensures
    c.in_ok-wants.ensures.tells c.in_ok-rest.ensures.follows
