use Rattle.dip_lists.proofs.FirstFailures.{first_law}
use Rattle.dip_lists.proofs.first.first_failing_law.Goals as goal

pub returns : goal.returns
returns c = first_law
