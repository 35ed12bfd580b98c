use Rattle.sim_drive.proofs.Ascending.{law}
use Rattle.sim_drive.proofs.laws.rising_law.Goals as goal

pub returns : goal.returns
returns c = law
