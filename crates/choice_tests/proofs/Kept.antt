-- A move leaves the plan as it is.
use Rattle.std.proofs.Common.{◌≡◌, Option, Some, None, refl}
use Rattle.flow_core.specs.declared.moves.Move.{Move}
use Rattle.flow_core.specs.Network.{State, Job, job, done, state_after}
use Rattle.std.specs.Option.{option_map_or}

after : (state : State) (does : Option Job) → (option_map_or (done state) does state).plan ≡ state.plan
after state None = refl
after state (Some does) = refl

pub same_plan : (state : State) (move : Move) → (state_after state move).plan ≡ state.plan
same_plan state move = after state (job state move)
