use Rattle.tl_params.proofs.Carrying.{carried}
use Rattle.tl_params.proofs.laws.carried_law.Goals as goal

pub returns : goal.returns
returns c = carried
