-- That the chosen moves of a cycle may be made in any order, and that there are states of which this is said.
use Rattle.std.specs.Prelude.{List, IsPermutation}
use Rattle.tl_edge.specs.declared.plan.Plan.{Plan}
use Rattle.tl_edge.specs.SoundPlans.{IsSound}
use Rattle.flow_core.specs.declared.moves.Move.{Move}
use Rattle.flow_core.specs.Network.{State, RunsTo, network_at_start}
use Rattle.flow_choice.specs.declared.offers.Offers.{Offers}
use Rattle.flow_choice.specs.Choosing.{chosen_moves, state_after_cycle}
use Rattle.flow_choice.specs.Valid.{IsValid}

-- in every locally valid state of a sound plan, whatever the ports offer, the chosen moves may be made in any order,
-- each is enabled when it is made, and the state afterwards is the same
abbrev pub CommuteLaw : Type 0
CommuteLaw =
    (plan : Plan) (state : State) (offers : Offers) (moves : List Move) → IsSound plan → IsValid plan state
    → IsPermutation (chosen_moves state offers) moves → RunsTo state moves (state_after_cycle state offers)

-- the start of every plan is locally valid
abbrev pub StartLaw : Type 0
StartLaw = (plan : Plan) → IsValid plan (network_at_start plan)
