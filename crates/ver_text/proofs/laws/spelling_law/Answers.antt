use Rattle.ver_text.proofs.Sound.{read_spells}
use Rattle.ver_text.proofs.Spells.{spelled_read, spells_one}
use Rattle.ver_text.proofs.laws.spelling_law.Goals as goal

pub returns : goal.returns
returns c = record { read = spelled_read; spelled = read_spells; only = spells_one }
