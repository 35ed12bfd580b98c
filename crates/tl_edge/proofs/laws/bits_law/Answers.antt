use Rattle.tl_edge.proofs.Greatest.{bits_law}
use Rattle.tl_edge.proofs.laws.bits_law.Goals as goal

pub returns : goal.returns
returns c = bits_law
