use Rattle.dip_checks.proofs.Passed.{ports}
use Rattle.dip_checks.proofs.laws.ports_law.Goals as goal

pub returns : goal.returns
returns c = ports
