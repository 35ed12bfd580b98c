use Rattle.net_build.proofs.Chains.{firsts_first}
use Rattle.net_build.proofs.laws.firsts_law.Goals as goal

pub returns : goal.returns
returns c = firsts_first
