use Rattle.soc_stimulus.proofs.InOrder.{rules_law}
use Rattle.soc_stimulus.proofs.laws.stimulus_rules_law.Goals as goal

pub returns : goal.returns
returns c = rules_law
