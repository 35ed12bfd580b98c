use Rattle.tl_edge.proofs.Fitting.{wires_law}
use Rattle.tl_edge.proofs.laws.wires_law.Goals as goal

pub returns : goal.returns
returns c = wires_law
