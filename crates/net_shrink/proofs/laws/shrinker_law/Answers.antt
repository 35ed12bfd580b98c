use Rattle.net_shrink.proofs.WrittenOut.{as_written}
use Rattle.net_shrink.proofs.laws.shrinker_law.Goals as goal

pub returns : goal.returns
returns c = as_written
