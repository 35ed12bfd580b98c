use Rattle.net_cells.proofs.Cycles.{one_cycle}
use Rattle.net_cells.proofs.laws.values_law.Goals as goal

pub returns : goal.returns
returns c = one_cycle
