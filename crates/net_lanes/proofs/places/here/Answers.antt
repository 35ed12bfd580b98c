use Rattle.net_lanes.proofs.Begins.{here_sum}
use Rattle.net_lanes.proofs.places.here.Goals as goal

pub returns-clause-value : goal.returns-clause-value
returns-clause-value c = here_sum _ _ _ c.in_ok-first.first c.in_ok-bytes.bytes c.args.address c.args.done c.in_ok-sum.sum c.args.buses c.in_ok-bytes.ensures.adds c.in_ok-sum.ensures.adds c.in_ok-first.ensures.wire.1 c.in_ok-first.ensures.value c.in_ok-bytes.ensures.value c.in_ok-sum.ensures.value
