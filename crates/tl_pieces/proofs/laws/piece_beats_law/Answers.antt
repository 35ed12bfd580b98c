use Rattle.tl_pieces.proofs.PieceBeats.{piece_beats_law}
use Rattle.tl_pieces.proofs.laws.piece_beats_law.Goals as goal

pub returns : goal.returns
returns c = piece_beats_law
