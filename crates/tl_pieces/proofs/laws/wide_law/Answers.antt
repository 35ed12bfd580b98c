use Rattle.tl_pieces.proofs.Widening.{wide_law}
use Rattle.tl_pieces.proofs.laws.wide_law.Goals as goal

pub returns : goal.returns
returns c = wide_law
