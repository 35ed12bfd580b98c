use Rattle.tl_pieces.proofs.Widening.{last_law}
use Rattle.tl_pieces.proofs.laws.last_law.Goals as goal

pub returns : goal.returns
returns c = last_law
