use Rattle.rule_laws.proofs.Worked.{refusal_examples}
use Rattle.rule_laws.proofs.laws.refusal_examples_law.Goals as goal

pub returns : goal.returns
returns c = refusal_examples
