use Rattle.choice_tests.proofs.Standing.{made_built, made_numbered}
use Rattle.choice_tests.proofs.made.plan.Goals as goal

pub returns-clause-built : goal.returns-clause-built
returns-clause-built c = made_built _ c.in_ok-ram.ram c.in_ok-low.low c.in_ok-high.high c.in_ok-edges.ensures c.in_ok-leaves.ensures

pub returns-clause-numbered : goal.returns-clause-numbered
returns-clause-numbered c = made_numbered _ c.in_ok-sources.ensures c.in_ok-sinks.ensures c.in_ok-leaves.ensures
