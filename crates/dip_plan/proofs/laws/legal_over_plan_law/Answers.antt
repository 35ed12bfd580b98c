use Rattle.dip_plan.proofs.Stands.{legal_over_plan}
use Rattle.dip_plan.proofs.laws.legal_over_plan_law.Goals as goal

pub returns : goal.returns
returns c = legal_over_plan
