use Rattle.net_build.proofs.Steps.{bit_later, bit_made, later_later, wire_later}
use Rattle.net_tests.proofs.queued.queued.Goals as goal

pub queue-requires-clause-bits : goal.queue-requires-clause-bits
queue-requires-clause-bits c =
    let l = later_later _ _ _ c.in_ok-item.ensures.adds.later c.in_ok-pop.ensures.adds.later in
    let x = c.in_ok-push.ensures.wire in
    let y = c.in_ok-pop.ensures.wire in
    (bit_later _ _ c.in_ok-push.push l (bit_made _ c.in_ok-push.push x.0 x.1), bit_made _ c.in_ok-pop.pop y.0 y.1)

pub queue-requires-clause-item : goal.queue-requires-clause-item
queue-requires-clause-item c = (wire_later _ _ c.in_ok-item.item c.in_ok-pop.ensures.adds.later c.in_ok-item.ensures.wire.0, c.in_ok-item.ensures.wire.1)
