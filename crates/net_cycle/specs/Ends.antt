-- What the two ends of an edge do in a cycle: a port by what it offers and takes, a leaf by its own moves.
use Rattle.std.specs.Prelude.{ℕ, ◌≡◌, ◌<◌, ◌&&◌, cond, List, length, map, get_or, Option, Some, None, is_some, slice_get}
use Rattle.tl_edge.specs.declared.beat.ABeat.{ABeat}
use Rattle.tl_edge.specs.declared.beat.DBeat.{DBeat}
use Rattle.tl_edge.specs.declared.beat.Tag.{Tag}
use Rattle.tl_edge.specs.declared.plan.Plan.{Plan}
use Rattle.tl_edge.specs.Plans.{edge_at, Giver, GivesTo, Taker, TakesFrom}
use Rattle.tl_edge.specs.Plans.Giver.{Out, Source}
use Rattle.tl_edge.specs.Plans.Taker.{In, Sink}
use Rattle.flow_core.specs.declared.moves.Move.{Move}
use Rattle.flow_core.specs.Carried.{carries_a, carries_d}
use Rattle.flow_core.specs.Network.{State, edge_of_port}
use Rattle.flow_core.specs.Queues.{queue, head_in, has_place}
use Rattle.flow_choice.specs.declared.offers.Offers.{Offers}
use Rattle.flow_choice.specs.Choosing.{flag_at, source_moves, sink_moves, leaf_moves, chosen_moves, state_after_moves}
use Rattle.net_cycle.specs.Flows.{flow_down, flow_up, first_put, any_take}

-- the moves of who puts requests onto an edge
abbrev pub giver_moves : State → Offers → Giver → List Move
giver_moves state offers (Out leaf place) = leaf_moves state leaf
giver_moves state offers (Source port) = source_moves state offers port

-- the moves of who takes them from it
abbrev pub taker_moves : State → Offers → Taker → List Move
taker_moves state offers (In leaf place) = leaf_moves state leaf
taker_moves state offers (Sink port) = sink_moves state offers port

-- At an edge no chosen move counts but those of its two ends: the giver puts on channel A and takes on channel D, the
-- taker takes on channel A and puts on channel D.
pub record AreOfEnds (plan : Plan) (state : State) (offers : Offers) : Type 0 where
  pub put_a : (edge : ℕ) (giver : Giver) → GivesTo plan edge giver
      → first_put edge (map (flow_down state) (chosen_moves state offers))
      ≡ first_put edge (map (flow_down state) (giver_moves state offers giver))
  pub take_a : (edge : ℕ) (taker : Taker) → TakesFrom plan edge taker
      → any_take edge (map (flow_down state) (chosen_moves state offers))
      ≡ any_take edge (map (flow_down state) (taker_moves state offers taker))
  pub put_d : (edge : ℕ) (taker : Taker) → TakesFrom plan edge taker
      → first_put edge (map (flow_up state) (chosen_moves state offers))
      ≡ first_put edge (map (flow_up state) (taker_moves state offers taker))
  pub take_d : (edge : ℕ) (giver : Giver) → GivesTo plan edge giver
      → any_take edge (map (flow_up state) (chosen_moves state offers))
      ≡ any_take edge (map (flow_up state) (giver_moves state offers giver))

-- ---- ports

-- an offered beat of a request, where the edge has room for it and carries it
abbrev pub let_in : State → ℕ → Option (ABeat × Tag) → Option (ABeat × Tag)
let_in state edge None = None
let_in state edge (Some beat) =
    cond (has_place (queue state.a edge) && carries_a (edge_at state.plan edge) beat.0) (Some beat) None

-- an offered beat of a response, where the edge has room for it and carries it
abbrev pub let_back : State → ℕ → Option (DBeat × Tag) → Option (DBeat × Tag)
let_back state edge None = None
let_back state edge (Some beat) =
    cond (has_place (queue state.d edge) && carries_d (edge_at state.plan edge) beat.0) (Some beat) None

-- a source port puts what it offers and takes where there is a head; a sink port likewise
pub record ArePortsMoves (plan : Plan) (state : State) (offers : Offers) : Type 0 where
  pub enter : (port edge : ℕ) → edge_of_port plan.sources port ≡ Some edge
      → first_put edge (map (flow_down state) (source_moves state offers port))
      ≡ let_in state edge (get_or offers.enter port None)
  pub return : (port edge : ℕ) → edge_of_port plan.sources port ≡ Some edge
      → any_take edge (map (flow_up state) (source_moves state offers port))
      ≡ flag_at offers.take_d port && is_some (head_in (queue state.d edge))
  pub leave : (port edge : ℕ) → edge_of_port plan.sinks port ≡ Some edge
      → any_take edge (map (flow_down state) (sink_moves state offers port))
      ≡ flag_at offers.take_a port && is_some (head_in (queue state.a edge))
  pub reply : (port edge : ℕ) → edge_of_port plan.sinks port ≡ Some edge
      → first_put edge (map (flow_up state) (sink_moves state offers port))
      ≡ let_back state edge (get_or offers.reply port None)

-- ---- leaves

-- a leaf's state after the cycle is that after its own moves alone
pub record AreOfLeaves (state : State) (offers : Offers) : Type 0 where
  pub leaf : (leaf : ℕ) → leaf < length state.plan.leaves
      → slice_get (state_after_moves state (chosen_moves state offers)).leaves leaf
      ≡ slice_get (state_after_moves state (leaf_moves state leaf)).leaves leaf
