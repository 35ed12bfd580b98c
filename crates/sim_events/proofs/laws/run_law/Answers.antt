use Rattle.std.proofs.Common.{refl}
use Rattle.flow_core.specs.Carried.{carries_a, carries_d}
use Rattle.sim_events.proofs.laws.run_law.Goals as goal

pub returns : goal.returns
unfolding carries_a carries_d
returns c = record { before = refl; begins = refl; all = refl; stalled = refl }
