use Rattle.dip_checks.proofs.Order.{check_order}
use Rattle.dip_checks.proofs.laws.check_order_law.Goals as goal

pub returns : goal.returns
returns c = check_order
