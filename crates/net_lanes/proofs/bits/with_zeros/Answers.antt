use Rattle.net_lanes.proofs.Cut.{low_wide}
use Rattle.net_lanes.proofs.bits.with_zeros.Goals as goal

pub returns-clause-value : goal.returns-clause-value
returns-clause-value c = low_wide _ _ _ c.args.wire c.in_ok-zeros.zeros c.in_ok-wide.wide c.args.width c.requires.wire c.requires.more c.in_ok-zeros.ensures.adds c.in_ok-wide.ensures.adds c.in_ok-zeros.ensures.value c.in_ok-wide.ensures.value
