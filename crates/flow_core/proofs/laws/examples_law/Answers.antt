use Rattle.flow_core.proofs.Worked.{crossbar_example, shrinker_example, width_example, fragmenter_example}
use Rattle.flow_core.proofs.laws.examples_law.Goals as goal

pub returns-clause-crossbar : goal.returns-clause-crossbar
returns-clause-crossbar c = crossbar_example

pub returns-clause-shrinker : goal.returns-clause-shrinker
returns-clause-shrinker c = shrinker_example

pub returns-clause-width : goal.returns-clause-width
returns-clause-width c = width_example

pub returns-clause-fragmenter : goal.returns-clause-fragmenter
returns-clause-fragmenter c = fragmenter_example
