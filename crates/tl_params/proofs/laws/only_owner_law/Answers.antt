use Rattle.tl_params.proofs.OneOwner.{only_owner}
use Rattle.tl_params.proofs.laws.only_owner_law.Goals as goal

pub returns : goal.returns
returns c = only_owner
