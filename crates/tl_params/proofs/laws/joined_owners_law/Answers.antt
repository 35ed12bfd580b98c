use Rattle.tl_params.proofs.Joining.{joined_owners}
use Rattle.tl_params.proofs.laws.joined_owners_law.Goals as goal

pub returns : goal.returns
returns c = joined_owners
