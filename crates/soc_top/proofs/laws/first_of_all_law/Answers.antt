use Rattle.soc_top.proofs.Ordered.{first_of_all}
use Rattle.soc_top.proofs.laws.first_of_all_law.Goals as goal

pub returns : goal.returns
returns c = first_of_all
