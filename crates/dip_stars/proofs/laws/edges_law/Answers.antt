use Rattle.dip_stars.proofs.Follow.{each_follows}
use Rattle.dip_stars.proofs.Numbered.{each_takes}
use Rattle.dip_stars.proofs.laws.edges_law.Goals as goal

pub returns-clause-follows : goal.returns-clause-follows
returns-clause-follows c = each_follows

pub returns-clause-ports : goal.returns-clause-ports
returns-clause-ports c = each_takes
