use Rattle.flow_core.proofs.Untagged.{tags_law}
use Rattle.flow_core.proofs.laws.tags_law.Goals as goal

pub returns : goal.returns
returns c = tags_law
