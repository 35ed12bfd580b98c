use Rattle.ver_text.proofs.Refusals.{each_told}
use Rattle.ver_text.proofs.laws.syntax_law.Goals as goal

pub returns : goal.returns
returns c = each_told
