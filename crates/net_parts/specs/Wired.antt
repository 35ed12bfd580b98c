-- Queues, leaves and ports in wires, joined as a plan says. Only what isn't public beyond this
-- repository's netlists cites it.
use Rattle.std.specs.Prelude.{◌≡◌, ℕ, ◌<◌, ◌&&◌, List, [], length, map, get_or, Some, slice_get}
use Rattle.tl_edge.specs.declared.plan.PlanPort.{PlanPort}
use Rattle.tl_edge.specs.declared.plan.Plan.{Plan}
use Rattle.tl_edge.specs.Plans.{Giver, Taker, GivesTo, TakesFrom}
use Rattle.tl_edge.specs.Plans.Giver.{Out, Source}
use Rattle.tl_edge.specs.Plans.Taker.{In, Sink}
use Rattle.flow_core.specs.Leaves.{LeafState}
use Rattle.flow_core.specs.Network.{State}
use Rattle.flow_core.specs.Turns.{leaf_state}
use Rattle.flow_choice.specs.Valid.{IsValid}
use Rattle.net_build.specs.Built.{Built}
use Rattle.net_build.specs.Columns.{no_wire}
use Rattle.net_build.specs.Values.{Tells, high}
use Rattle.net_queue.specs.declared.types.EdgeWires.{EdgeWires}
use Rattle.net_queue.specs.declared.types.LeafWires.{LeafWires}
use Rattle.net_queue.specs.declared.types.Put.{Put}
use Rattle.net_queue.specs.declared.types.Queue.{Queue}
use Rattle.net_queue.specs.Leaves.{AreWiresOf, IsLeaf, LeafDone, LeafView, ins_at, outs_at}
use Rattle.net_queue.specs.Machines.{Machine}
use Rattle.net_queue.specs.Queues.{IsListOfTwo}
use Rattle.net_cycle.specs.Parts.{seen_by}
use Rattle.net_parts.specs.declared.types.EndWires.{EndWires}

-- ---- what stands where there is nothing

abbrev pub no_put : Put
no_put = record { valid = no_wire; items = [] }

abbrev pub no_end : EndWires
no_end = record { put = no_put; take = no_wire }

abbrev pub no_queue : Queue
no_queue = record { ready = no_wire; valid = no_wire; head = []; full = no_wire; last = [] }

abbrev pub no_edge_wires : EdgeWires
no_edge_wires = record { a = no_queue; d = no_queue }

abbrev pub no_leaf_wires : LeafWires
no_leaf_wires = record { take_a = []; put_a = []; take_d = []; put_d = [] }

-- ---- by number

-- the queues of an edge
abbrev pub wires_of_edge : List EdgeWires → ℕ → EdgeWires
wires_of_edge edges edge = get_or edges edge no_edge_wires

-- the queues of some edges
abbrev pub wires_of_edges : List EdgeWires → List ℕ → List EdgeWires
wires_of_edges edges numbers = map (wires_of_edge edges) numbers

-- the wires of a leaf
abbrev pub wires_of_leaf : List LeafWires → ℕ → LeafWires
wires_of_leaf leaves leaf = get_or leaves leaf no_leaf_wires

-- the wires of a port
abbrev pub wires_of_port : List EndWires → ℕ → EndWires
wires_of_port ports port = get_or ports port no_end

-- what is put into the requests of an edge, and taken from its responses, by who gives to it
abbrev pub giver_end : List LeafWires → List EndWires → Giver → EndWires
giver_end leaves sources (Out leaf place) = record {
  put = get_or (wires_of_leaf leaves leaf).put_a place no_put;
  take = get_or (wires_of_leaf leaves leaf).take_d place no_wire;
}
giver_end leaves sources (Source port) = wires_of_port sources port

-- what is put into the responses of an edge, and taken from its requests, by who takes from it
abbrev pub taker_end : List LeafWires → List EndWires → Taker → EndWires
taker_end leaves sinks (In leaf place) = record {
  put = get_or (wires_of_leaf leaves leaf).put_d place no_put;
  take = get_or (wires_of_leaf leaves leaf).take_a place no_wire;
}
taker_end leaves sinks (Sink port) = wires_of_port sinks port

-- ---- the parts

-- both queues of an edge are closed between what gives to it and what takes from it
pub record IsClosedEdge (b : Built) (edge : EdgeWires) (giver taker : EndWires) : Type 0 where
  pub a : IsListOfTwo b edge.a giver.put.valid giver.put.items taker.take
  pub d : IsListOfTwo b edge.d taker.put.valid taker.put.items giver.take

-- what a port offers is put into a queue where there is room, and it takes from another where there is a head
pub record IsPortEnd (b : Built) (onto from : Queue) (offered gated : EndWires) : Type 0 where
  pub put : Tells b gated.put.valid (λ v. high v onto.ready && high v offered.put.valid)
  pub items : gated.put.items ≡ offered.put.items
  pub take : Tells b gated.take (λ v. high v offered.take && high v from.valid)

-- all wires of a netlist: the queues of each edge, the wires of each leaf, and of each port what it offers and what
-- passes of that
pub record Wiring : Type 0 where
  pub edges : List EdgeWires
  pub leaves : List LeafWires
  pub sources : List EndWires
  pub sinks : List EndWires
  pub source_ends : List EndWires
  pub sink_ends : List EndWires

-- a state of a leaf, beside what it sees, as they are in some locally valid state of the plan's network
pub record Occurs (plan : Plan) (leaf : ℕ) (its : LeafState) (sees : LeafView) : Type 0 where
  pub state : State
  pub valid : IsValid plan state
  pub its_is : leaf_state state leaf ≡ its
  pub sees_is : seen_by state leaf ≡ sees

-- The wires are joined as the plan says, where each leaf's wires are this machine, as long as its states and what it
-- sees occur in the network.
pub record IsWired (b : Built) (plan : Plan) (m : ℕ → Machine LeafState LeafView LeafDone) (w : Wiring) : Type 0 where
  pub closed : (edge : ℕ) (giver : Giver) (taker : Taker) → GivesTo plan edge giver → TakesFrom plan edge taker
      → IsClosedEdge b (wires_of_edge w.edges edge) (giver_end w.leaves w.source_ends giver)
      (taker_end w.leaves w.sink_ends taker)
  pub leaf : (leaf : ℕ) → leaf < length plan.leaves
      → IsLeaf b (wires_of_edges w.edges (ins_at plan leaf)) (wires_of_edges w.edges (outs_at plan leaf))
      (wires_of_leaf w.leaves leaf) (m leaf) (Occurs plan leaf)
  pub shaped : (leaf : ℕ) → leaf < length plan.leaves
      → AreWiresOf b (wires_of_edges w.edges (ins_at plan leaf)) (wires_of_edges w.edges (outs_at plan leaf))
      (wires_of_leaf w.leaves leaf)
  pub source : (port : ℕ) (at : PlanPort) → slice_get plan.sources port ≡ Some at
      → IsPortEnd b (wires_of_edge w.edges at.edge).a (wires_of_edge w.edges at.edge).d (wires_of_port w.sources port)
      (wires_of_port w.source_ends port)
  pub sink : (port : ℕ) (at : PlanPort) → slice_get plan.sinks port ≡ Some at
      → IsPortEnd b (wires_of_edge w.edges at.edge).d (wires_of_edge w.edges at.edge).a (wires_of_port w.sinks port)
      (wires_of_port w.sink_ends port)
