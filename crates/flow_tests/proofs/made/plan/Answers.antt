use Rattle.flow_tests.proofs.Standing.{made_built}
use Rattle.flow_tests.proofs.made.plan.Goals as goal

pub returns : goal.returns
returns c = made_built _ c.in_ok-low.low c.in_ok-high.high c.in_ok-edges.ensures c.in_ok-leaves.ensures
