use Rattle.flow_choice.proofs.Starting.{start_valid}
use Rattle.flow_choice.proofs.laws.start_law.Goals as goal

pub returns : goal.returns
returns c = start_valid
