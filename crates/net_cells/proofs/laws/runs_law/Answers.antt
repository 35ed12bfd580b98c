use Rattle.net_cells.proofs.Runs.{one_run}
use Rattle.net_cells.proofs.laws.runs_law.Goals as goal

pub returns : goal.returns
returns c = one_run
