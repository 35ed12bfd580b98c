use Rattle.flow_core.proofs.Simple.{built_law}
use Rattle.flow_core.proofs.laws.built_law.Goals as goal

pub returns : goal.returns
returns c = built_law
