use Rattle.tl_rules.proofs.Answering.{rules_answer}
use Rattle.tl_rules.proofs.laws.rules_answer_law.Goals as goal

pub returns : goal.returns
returns c = rules_answer
