use Rattle.net_top.proofs.Again.{starts_again}
use Rattle.net_top.proofs.laws.reset_law.Goals as goal

pub returns : goal.returns
returns c = starts_again
