use Rattle.net_build.proofs.Steps.{adds_adds, wire_adds}
use Rattle.net_lanes.proofs.Counted.{last_means}
use Rattle.net_lanes.proofs.counts.last_number.Goals as goal

pub returns-clause-value : goal.returns-clause-value
returns-clause-value c = last_means _ _ _ c.args.size c.in_ok-index.index c.in_ok-last.last c.in_ok-numbers.numbers c.as_slice.result.now c.args.narrow c.in_ok-numbers.ensures.adds c.in_ok-last.ensures.adds c.in_ok-index.ensures.value c.in_ok-numbers.ensures.numbers c.as_slice.ensures c.in_ok-last.ensures.value

pub read_entry-requires-clause-index : goal.read_entry-requires-clause-index
read_entry-requires-clause-index c = wire_adds _ _ c.in_ok-index.index c.in_ok-numbers.ensures.adds c.in_ok-index.ensures.wire.0

pub returns-clause-adds : goal.returns-clause-adds
returns-clause-adds c = adds_adds _ _ _ (adds_adds _ _ _ c.in_ok-index.ensures.adds c.in_ok-numbers.ensures.adds) c.in_ok-last.ensures.adds
