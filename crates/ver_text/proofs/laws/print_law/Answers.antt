use Rattle.ver_text.proofs.Layouts.{printed_spells, printed_read}
use Rattle.ver_text.proofs.laws.print_law.Goals as goal

pub returns : goal.returns
returns c = record { spells = printed_spells; read = printed_read }
