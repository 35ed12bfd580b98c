use Rattle.soc_build.proofs.Buildable.{buildable}
use Rattle.soc_build.proofs.laws.buildable_law.Goals as goal

pub returns : goal.returns
returns c = buildable
