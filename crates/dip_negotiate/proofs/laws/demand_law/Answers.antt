use Rattle.dip_negotiate.proofs.Demanded.{demand_refusal, demanded_port}
use Rattle.dip_negotiate.proofs.laws.demand_law.Goals as goal

pub returns-clause-port : goal.returns-clause-port
returns-clause-port c = demanded_port

pub returns-clause-refusal : goal.returns-clause-refusal
returns-clause-refusal c = demand_refusal
