use Rattle.sim_engine.proofs.Placed.{each_once}
use Rattle.sim_engine.proofs.laws.order_law.Goals as goal

pub returns : goal.returns
returns c = each_once
