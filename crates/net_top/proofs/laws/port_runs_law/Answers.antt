use Rattle.net_top.proofs.Fitting.{port_runs}
use Rattle.net_top.proofs.laws.port_runs_law.Goals as goal

pub returns : goal.returns
returns c = port_runs c.runs_law.ensures
