use Rattle.tl_pieces.proofs.Keeping.{kept_law}
use Rattle.tl_pieces.proofs.laws.kept_law.Goals as goal

pub returns : goal.returns
returns c = kept_law
