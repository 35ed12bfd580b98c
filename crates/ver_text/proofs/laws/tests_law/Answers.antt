use Rattle.ver_text.proofs.Exact.{exact}
use Rattle.ver_text.proofs.laws.tests_law.Goals as goal

pub returns : goal.returns
returns c = exact
