use Rattle.tl_rules.proofs.Going as going
use Rattle.tl_rules.proofs.laws.pieces_law.Goals as goal

pub returns : goal.returns
returns c = going.pieces_law
