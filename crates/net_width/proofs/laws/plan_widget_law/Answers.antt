use Rattle.net_width.proofs.Planned.{begins_so}
use Rattle.net_width.proofs.laws.plan_widget_law.Goals as goal

pub returns : goal.returns
returns c = begins_so
