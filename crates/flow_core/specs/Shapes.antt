-- What keeps its shape whatever moves are made: the plan, a queue of at most two for each edge and channel, a state for
-- each leaf.
use Rattle.std.specs.Prelude.{ℕ, ◌≡◌, ◌≤◌, List, length}
use Rattle.tl_edge.specs.declared.plan.Plan.{Plan}
use Rattle.flow_core.specs.declared.moves.Move.{Move}
use Rattle.flow_core.specs.Queues.{queue, most_waiting}
use Rattle.flow_core.specs.Network.{State, network_at_start, RunsTo}

-- the queues of a channel: one for each of so many edges, none longer than two
pub record AreQueues {B : Type 0} (edges : ℕ) (queues : List (List B)) : Type 0 where
  pub each : length queues ≡ edges
  pub few : (edge : ℕ) → length (queue queues edge) ≤ most_waiting

-- a state with this plan, and with as many queues and leaves as it has edges and leaves
pub record IsOf (its : Plan) (state : State) : Type 0 where
  pub plan : state.plan ≡ its
  pub a : AreQueues (length its.edges) state.a
  pub d : AreQueues (length its.edges) state.d
  pub leaves : length state.leaves ≡ length its.leaves

-- so it is after every list of moves from the start, each enabled when it is made, in whatever order
abbrev pub ShapeLaw : Type 0
ShapeLaw = (plan : Plan) (moves : List Move) (end : State) → RunsTo (network_at_start plan) moves end → IsOf plan end
