use Rattle.tl_params.proofs.OwnedBy.{owners}
use Rattle.tl_params.proofs.laws.owner_law.Goals as goal

pub returns : goal.returns
returns c = owners
