use Rattle.net_queue.proofs.Guarded.{adapters_guarded}
use Rattle.net_queue.proofs.laws.guarded_law.Goals as goal

pub returns : goal.returns
returns c = adapters_guarded
