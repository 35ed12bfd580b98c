use Rattle.tl_pieces.proofs.Narrowing.{narrow_law}
use Rattle.tl_pieces.proofs.laws.narrow_law.Goals as goal

pub returns : goal.returns
returns c = narrow_law
