use Rattle.net_build.proofs.Steps.{wire_adds}
use Rattle.net_lanes.proofs.Counted.{next_means}
use Rattle.net_lanes.proofs.counts.next_number.Goals as goal

pub mux-requires-clause-wires : goal.mux-requires-clause-wires
mux-requires-clause-wires c = (wire_adds _ _ c.in_ok-zero.zero c.in_ok-more.ensures.adds c.in_ok-zero.ensures.wire.0, c.in_ok-more.ensures.wire.0)

pub returns-clause-value : goal.returns-clause-value
returns-clause-value c = next_means _ _ _ _ c.args.done c.in_ok-one.one c.in_ok-zero.zero c.in_ok-more.more c.args.last c.in_ok-next.next c.requires.done.1 c.in_ok-zero.ensures.adds c.in_ok-more.ensures.adds c.in_ok-next.ensures.adds c.in_ok-one.ensures.value c.in_ok-zero.ensures.value c.in_ok-more.ensures.value c.in_ok-next.ensures.value
