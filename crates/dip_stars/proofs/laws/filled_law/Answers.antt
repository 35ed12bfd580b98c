use Rattle.dip_stars.proofs.Sums.{each_has_its_edges, each_has_its_ports}
use Rattle.dip_stars.proofs.laws.filled_law.Goals as goal

pub returns-clause-edges : goal.returns-clause-edges
returns-clause-edges c = each_has_its_edges

pub returns-clause-ports : goal.returns-clause-ports
returns-clause-ports c = each_has_its_ports
