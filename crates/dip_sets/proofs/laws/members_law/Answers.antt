use Rattle.dip_sets.proofs.Members.{members}
use Rattle.dip_sets.proofs.laws.members_law.Goals as goal

pub returns : goal.returns
returns c = members
