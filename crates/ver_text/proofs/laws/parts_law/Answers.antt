use Rattle.ver_text.proofs.Refused.{refused_part}
use Rattle.ver_text.proofs.laws.parts_law.Goals as goal

pub returns : goal.returns
returns c = refused_part
