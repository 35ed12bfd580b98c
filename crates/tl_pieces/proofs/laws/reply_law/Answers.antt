use Rattle.tl_pieces.proofs.Replies.{reply_law}
use Rattle.tl_pieces.proofs.laws.reply_law.Goals as goal

pub returns : goal.returns
returns c = reply_law
