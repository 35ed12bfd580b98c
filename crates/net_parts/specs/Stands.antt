-- How the wires of a netlist stand to a state of the network. Only what isn't public beyond this
-- repository's netlists cites it.
use Rattle.std.specs.Prelude.{◌≡◌, ℕ, ◌<◌, ◌==◌, false, List, [], ◌∷◌, length, map, get_or, None}
use Rattle.std.specs.Option.{option_map}
use Rattle.tl_edge.specs.declared.beat.ABeat.{ABeat}
use Rattle.tl_edge.specs.declared.beat.DBeat.{DBeat}
use Rattle.tl_edge.specs.declared.beat.Tag.{Tag}
use Rattle.tl_edge.specs.declared.plan.Plan.{Plan}
use Rattle.tl_edge.specs.Wires.{a_fields, d_fields}
use Rattle.flow_core.specs.Leaves.{LeafState}
use Rattle.flow_core.specs.Network.{State, network_at_start}
use Rattle.flow_core.specs.Queues.{queue}
use Rattle.flow_core.specs.Turns.{leaf_state}
use Rattle.flow_choice.specs.declared.offers.Offers.{Offers}
use Rattle.flow_choice.specs.Choosing.{flag_at, state_after_cycle}
use Rattle.flow_choice.specs.Valid.{IsValid}
use Rattle.net_build.specs.Built.{Built}
use Rattle.net_build.specs.Values.{Solves, Ticks, high}
use Rattle.net_queue.specs.Leaves.{LeafDone, LeafView, put_told}
use Rattle.net_queue.specs.Machines.{Machine}
use Rattle.net_queue.specs.Queues.{shown_at, shown_of}
use Rattle.net_cycle.specs.Parts.{IsMachineAt}
use Rattle.net_parts.specs.Wired.{Wiring, wires_of_edge, wires_of_port}

-- the fields of a beat of a request, without its tag
abbrev pub down_fields : ABeat × Tag → List ℕ
down_fields beat = a_fields beat.0

-- of a beat of a response
abbrev pub up_fields : DBeat × Tag → List ℕ
up_fields beat = d_fields beat.0

-- each leaf of the network is a machine: it starts as that does, and in each locally valid state its moves are that
-- one's
pub record AreMachines (plan : Plan) (m : ℕ → Machine LeafState LeafView LeafDone) : Type 0 where
  pub idle : (leaf : ℕ) → leaf < length plan.leaves → (m leaf).idle ≡ leaf_state (network_at_start plan) leaf
  pub moves : (state : State) (leaf : ℕ) → IsValid plan state → leaf < length plan.leaves
      → IsMachineAt state leaf (m leaf)

-- where the wires have these values, the ports offer and take this
pub record Offer (w : Wiring) (offers : Offers) (v : ℕ → ℕ) : Type 0 where
  pub enter : (port : ℕ) → port < length offers.enter
      → put_told v (wires_of_port w.sources port).put ≡ option_map down_fields (get_or offers.enter port None)
  pub take_d : (port : ℕ) → port < length offers.take_d
      → high v (wires_of_port w.sources port).take ≡ flag_at offers.take_d port
  pub take_a : (port : ℕ) → port < length offers.take_a
      → high v (wires_of_port w.sinks port).take ≡ flag_at offers.take_a port
  pub reply : (port : ℕ) → port < length offers.reply
      → put_told v (wires_of_port w.sinks port).put ≡ option_map up_fields (get_or offers.reply port None)

-- where the wires have these values, each queue shows what it is in this state
pub record ShowAll (plan : Plan) (w : Wiring) (v : ℕ → ℕ) (state : State) : Type 0 where
  pub a : (edge : ℕ) → edge < length plan.edges
      → shown_at (wires_of_edge w.edges edge).a v ≡ shown_of (map down_fields (queue state.a edge))
  pub d : (edge : ℕ) → edge < length plan.edges
      → shown_at (wires_of_edge w.edges edge).d v ≡ shown_of (map up_fields (queue state.d edge))

-- values of a cycle without a reset
pub record IsCalm (b : Built) (v : ℕ → ℕ) : Type 0 where
  pub solves : Solves b v
  pub calm : (v 0 == 1) ≡ false

-- values of cycles one after the other, in each of which the ports offer this
abbrev pub AreCycles : Built → Wiring → List Offers → List (ℕ → ℕ) → Type 0
AreCycles b w [] [] = Unit {0}
AreCycles b w [] (v ∷ vs) = ⊥
AreCycles b w (offers ∷ cycles) [] = ⊥
AreCycles b w (offers ∷ []) (v ∷ []) = IsCalm b v × Offer w offers v
AreCycles b w (offers ∷ []) (v ∷ u ∷ vs) = ⊥
AreCycles b w (offers ∷ next ∷ cycles) (v ∷ []) = ⊥
AreCycles b w (offers ∷ next ∷ cycles) (v ∷ u ∷ vs) =
    IsCalm b v × Offer w offers v × Ticks b v u × AreCycles b w (next ∷ cycles) (u ∷ vs)

-- in each cycle the queues show the network's state
abbrev pub ShowEach : Plan → Wiring → State → List Offers → List (ℕ → ℕ) → Type 0
ShowEach plan w state [] [] = Unit {0}
ShowEach plan w state [] (v ∷ vs) = ⊥
ShowEach plan w state (offers ∷ cycles) [] = ⊥
ShowEach plan w state (offers ∷ cycles) (v ∷ vs) =
    ShowAll plan w v state × ShowEach plan w (state_after_cycle state offers) cycles vs
