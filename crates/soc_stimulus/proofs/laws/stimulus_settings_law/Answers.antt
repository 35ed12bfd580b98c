use Rattle.soc_stimulus.proofs.SettingsSaid.{settings_law}
use Rattle.soc_stimulus.proofs.laws.stimulus_settings_law.Goals as goal

pub returns : goal.returns
returns c = settings_law
