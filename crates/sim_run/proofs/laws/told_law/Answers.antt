use Rattle.sim_run.proofs.Told.{told_law}
use Rattle.sim_run.proofs.laws.told_law.Goals as goal

pub returns : goal.returns
returns c = told_law
