use Rattle.tl_pieces.proofs.Pieces.{cut_law}
use Rattle.tl_pieces.proofs.laws.cut_law.Goals as goal

pub returns : goal.returns
returns c = cut_law
