use Rattle.net_choice.proofs.InTurn.{grants_are_pick}
use Rattle.net_choice.proofs.laws.choice_law.Goals as goal

pub returns : goal.returns
returns c = grants_are_pick
