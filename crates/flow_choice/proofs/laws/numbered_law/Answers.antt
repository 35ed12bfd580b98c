use Rattle.flow_choice.proofs.Counts.{numbered_law}
use Rattle.flow_choice.proofs.laws.numbered_law.Goals as goal

pub returns : goal.returns
returns c = numbered_law
