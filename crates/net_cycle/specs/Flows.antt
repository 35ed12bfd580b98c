-- What the moves of a cycle do to the queue of an edge, all at once.
use Rattle.std.specs.Prelude.{ℕ, ◌≡◌, ◌==◌, Bool, false, ◌||◌, cond, List, [], ◌∷◌, map, Option, Some, None}
use Rattle.std.specs.Option.{option_map_or, option_or}
use Rattle.tl_edge.specs.declared.beat.ABeat.{ABeat}
use Rattle.tl_edge.specs.declared.beat.DBeat.{DBeat}
use Rattle.tl_edge.specs.declared.beat.Tag.{Tag}
use Rattle.flow_core.specs.declared.moves.Move.{Move}
use Rattle.flow_core.specs.declared.queue.Flow.{Flow}
use Rattle.flow_core.specs.Network.{State, Job, job}
use Rattle.flow_core.specs.Queues.{queue, still}
use Rattle.flow_choice.specs.Choosing.{state_after_moves}
use Rattle.net_queue.specs.Queues.{Moved, MayMove, moved_on}

-- what a move does to the queues of channel A: nothing where it does nothing at all
abbrev pub flow_down : State → Move → Flow (ABeat × Tag)
flow_down state move = option_map_or (λ (does : Job). does.a) (job state move) still

-- what it does to those of channel D
abbrev pub flow_up : State → Move → Flow (DBeat × Tag)
flow_up state move = option_map_or (λ (does : Job). does.d) (job state move) still

-- what is put onto this edge, of a put onto some edge
abbrev pub put_here : {B : Type 0} → ℕ → Option (ℕ × B) → Option B
put_here edge None = None
put_here edge (Some put) = cond (put.0 == edge) (Some put.1) None

-- whether this is the edge from which a head is taken
abbrev pub taken_here : ℕ → Option ℕ → Bool
taken_here edge None = false
taken_here edge (Some from) = from == edge

-- of some moves the first put onto an edge
abbrev pub first_put : {B : Type 0} → ℕ → List (Flow B) → Option B
first_put edge [] = None
first_put edge (flow ∷ flows) = option_or (put_here edge flow.put) (first_put edge flows)

-- whether any of them takes its head
abbrev pub any_take : {B : Type 0} → ℕ → List (Flow B) → Bool
any_take edge [] = false
any_take edge (flow ∷ flows) = taken_here edge (cond flow.take flow.from None) || any_take edge flows

-- what some moves do at an edge together
abbrev pub moved_here : {B : Type 0} → ℕ → List (Flow B) → Moved B
moved_here edge flows = record { put = first_put edge flows; take = any_take edge flows }

-- Some moves, made one after another, leave each queue as if they were made at once: without its head where one of them
-- takes it, with a beat more where one puts it. None of them puts without room or takes without a head.
pub record AreAtOnce (state : State) (moves : List Move) : Type 0 where
  pub a : (edge : ℕ)
      → queue (state_after_moves state moves).a edge
      ≡ moved_on (queue state.a edge) (moved_here edge (map (flow_down state) moves))
  pub d : (edge : ℕ)
      → queue (state_after_moves state moves).d edge
      ≡ moved_on (queue state.d edge) (moved_here edge (map (flow_up state) moves))
  pub may_a : (edge : ℕ) → MayMove (queue state.a edge) (moved_here edge (map (flow_down state) moves))
  pub may_d : (edge : ℕ) → MayMove (queue state.d edge) (moved_here edge (map (flow_up state) moves))
