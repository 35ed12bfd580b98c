use Rattle.tl_params.proofs.OneOwner.{one_owner}
use Rattle.tl_params.proofs.laws.one_owner_law.Goals as goal

pub returns : goal.returns
returns c = one_owner
