use Rattle.sim_run.proofs.Running.{engine_law}
use Rattle.sim_run.proofs.laws.engine_law.Goals as goal

pub returns : goal.returns
returns c = engine_law
