-- Wires that are joined as a plan says show its network, as long as its states are locally valid and ports offer what
-- their edges carry; in such states what leaves put fits the wires of their edges. Only what isn't public beyond this
-- repository's netlists cites it.
use Rattle.std.specs.Prelude.{ℕ, List, ◌∷◌}
use Rattle.tl_edge.specs.declared.plan.Plan.{Plan}
use Rattle.tl_edge.specs.SoundPlans.{IsSound}
use Rattle.flow_core.specs.Leaves.{LeafState}
use Rattle.flow_core.specs.Network.{State, network_at_start}
use Rattle.flow_core.specs.Turns.{leaf_state}
use Rattle.flow_choice.specs.declared.offers.Offers.{Offers}
use Rattle.flow_choice.specs.Valid.{IsValid}
use Rattle.net_build.specs.Built.{Built}
use Rattle.net_build.specs.Values.{AtStart}
use Rattle.net_cycle.specs.Parts.{IsMachineAt, seen_by}
use Rattle.net_queue.specs.Leaves.{DoneFitsAt, LeafDone, LeafView}
use Rattle.net_queue.specs.Machines.{Machine}
use Rattle.net_ports.specs.Implementing.{AreOffered}
use Rattle.net_parts.specs.Wired.{IsWired, Wiring}
use Rattle.net_parts.specs.Stands.{AreCycles, AreMachines, ShowEach}

-- a leaf of the network that does what a machine does puts, in each locally valid state, what fits the wires of its
-- edges
abbrev pub PutsFitLaw : Type 0
PutsFitLaw =
    (plan : Plan) (state : State) (leaf : ℕ) (machine : Machine LeafState LeafView LeafDone) → IsValid plan state
    → IsMachineAt state leaf machine → DoneFitsAt plan leaf machine (leaf_state state leaf) (seen_by state leaf)

-- in every run from the start, with offers that the edges carry and as long as the network's states are locally valid
abbrev pub WiredLaw : Type 0
WiredLaw =
    (b : Built) (plan : Plan) (m : ℕ → Machine LeafState LeafView LeafDone) (w : Wiring) (offers : Offers)
    (cycles : List Offers) (v : ℕ → ℕ) (vs : List (ℕ → ℕ)) → IsSound plan → IsWired b plan m w → AreMachines plan m
    → AreOffered plan (network_at_start plan) (offers ∷ cycles) → AtStart b v → AreCycles b w (offers ∷ cycles) (v ∷ vs)
    → ShowEach plan w (network_at_start plan) (offers ∷ cycles) (v ∷ vs)
