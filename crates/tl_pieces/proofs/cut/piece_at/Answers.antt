use Rattle.tl_pieces.proofs.Parts.{piece_begins}
use Rattle.tl_pieces.proofs.cut.piece_at.Goals as goal

pub offset_address-requires-clause-within : goal.offset_address-requires-clause-within
offset_address-requires-clause-within c = piece_begins c.args.most c.args.request.now c.args.number c.requires.size c.requires.cut c.requires.number
