use Rattle.net_parts.proofs.Standing.{wired_law_of}
use Rattle.net_parts.proofs.laws.wired_law.Goals as goal

pub returns : goal.returns
returns c = wired_law_of c.parts_law.ensures
