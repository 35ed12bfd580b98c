use Rattle.soc_design.proofs.Order.{file_order}
use Rattle.soc_design.proofs.laws.file_order_law.Goals as goal

pub returns : goal.returns
returns c = file_order
