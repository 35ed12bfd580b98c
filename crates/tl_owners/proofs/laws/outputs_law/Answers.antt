use Rattle.tl_owners.proofs.Outputs.{outputs}
use Rattle.tl_owners.proofs.laws.outputs_law.Goals as goal

pub returns : goal.returns
returns c = outputs
