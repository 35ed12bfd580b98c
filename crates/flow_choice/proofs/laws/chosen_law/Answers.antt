use Rattle.flow_choice.proofs.Complete.{exactly_asked}
use Rattle.flow_choice.proofs.laws.chosen_law.Goals as goal

pub returns : goal.returns
returns c = exactly_asked
