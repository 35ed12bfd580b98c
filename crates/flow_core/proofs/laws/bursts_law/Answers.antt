use Rattle.flow_core.proofs.WorkedBursts.{crossbar_bursts, shrinker_bursts, width_bursts, fragmenter_bursts, lines_example}
use Rattle.flow_core.proofs.laws.bursts_law.Goals as goal

pub returns-clause-crossbar : goal.returns-clause-crossbar
returns-clause-crossbar c = crossbar_bursts

pub returns-clause-shrinker : goal.returns-clause-shrinker
returns-clause-shrinker c = shrinker_bursts

pub returns-clause-width : goal.returns-clause-width
returns-clause-width c = width_bursts

pub returns-clause-fragmenter : goal.returns-clause-fragmenter
returns-clause-fragmenter c = fragmenter_bursts

pub returns-clause-lines : goal.returns-clause-lines
returns-clause-lines c = lines_example
