use Rattle.sim_run.proofs.Offered.{drivers_law}
use Rattle.sim_run.proofs.laws.drivers_law.Goals as goal

pub returns : goal.returns
returns c = drivers_law
