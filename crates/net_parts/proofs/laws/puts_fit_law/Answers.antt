use Rattle.net_parts.proofs.Standing.{puts_fit_of}
use Rattle.net_parts.proofs.laws.puts_fit_law.Goals as goal

pub returns : goal.returns
returns c = puts_fit_of
