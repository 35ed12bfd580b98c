use Rattle.net_lanes.proofs.Counted.{last_tells, next_after, tells_where_adds}
use Rattle.net_lanes.proofs.counts.numbered.Goals as goal

pub returns-clause-last : goal.returns-clause-last
returns-clause-last c = tells_where_adds _ _ _ c.in_ok-last.last _ c.in_ok-next.ensures.adds (last_tells _ _ c.args.size c.args.done c.in_ok-number.number c.in_ok-last.last _ _ c.bytes_of_bus.ensures.value c.in_ok-last.ensures.adds c.in_ok-number.ensures.value c.in_ok-last.ensures.tells)

pub returns-clause-next : goal.returns-clause-next
returns-clause-next c = next_after _ _ c.args.size c.args.done c.in_ok-last.last c.in_ok-next.next _ c.in_ok-next.ensures.adds (last_tells _ _ c.args.size c.args.done c.in_ok-number.number c.in_ok-last.last _ _ c.bytes_of_bus.ensures.value c.in_ok-last.ensures.adds c.in_ok-number.ensures.value c.in_ok-last.ensures.tells) c.in_ok-next.ensures.value
