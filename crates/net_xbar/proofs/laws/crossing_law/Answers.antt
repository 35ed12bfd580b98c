use Rattle.net_xbar.proofs.Sided.{crossing_is_gatewise}
use Rattle.net_xbar.proofs.laws.crossing_law.Goals as goal

pub returns : goal.returns
returns c = crossing_is_gatewise
