use Rattle.tl_rules.proofs.Shifting.{ids_law}
use Rattle.tl_rules.proofs.laws.shifted_ids_law.Goals as goal

pub returns : goal.returns
returns c = ids_law
