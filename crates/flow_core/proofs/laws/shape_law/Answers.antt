use Rattle.flow_core.proofs.Runs.{shape_law}
use Rattle.flow_core.proofs.laws.shape_law.Goals as goal

pub returns : goal.returns
returns c = shape_law
