use Rattle.dip_negotiate.proofs.Law.{negotiation}
use Rattle.dip_negotiate.proofs.laws.negotiation_law.Goals as goal

pub returns : goal.returns
returns c = negotiation
