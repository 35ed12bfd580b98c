use Rattle.tl_rules.proofs.Fitting.{rules_fit}
use Rattle.tl_rules.proofs.laws.rules_fit_law.Goals as goal

pub returns : goal.returns
returns c = rules_fit
