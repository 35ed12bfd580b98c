use Rattle.tl_edge.proofs.ExampleSound.{sound}
use Rattle.tl_edge.proofs.plan.sound_plan_law.Goals as goal

pub returns : goal.returns
returns c = sound
