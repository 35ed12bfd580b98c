-- How the leaves, edges and ports of a plan hang together.
use Rattle.std.specs.Prelude.{ℕ, ◌≡◌, ◌+◌, ◌==◌, cond, List, [], ◌∷◌, ◌++◌, map, Contains, Some, slice_get, unwrap_or}
use Rattle.std.specs.List.{flat_map}
use Rattle.tl_params.specs.declared.ports.Slave.{Slave}
use Rattle.tl_edge.specs.declared.bundle.Bundle.{Bundle}
use Rattle.tl_edge.specs.declared.plan.Leaf.{Leaf}
use Rattle.tl_edge.specs.declared.plan.PlanEdge.{PlanEdge}
use Rattle.tl_edge.specs.declared.plan.PlanPort.{PlanPort}
use Rattle.tl_edge.specs.declared.plan.Plan.{Plan}

-- ---- edges by their numbers

-- the bundle of no edge
abbrev pub no_bundle : Bundle
no_bundle = record { address_bits = 0; data_bytes = 0; source_bits = 0; size_bits = 0 }

-- what stands for an edge whose number is none of a plan's
abbrev pub no_edge : PlanEdge
no_edge = record { bundle = no_bundle; slaves = []; ids = 0 }

-- the edge with a number
abbrev pub edge_at : Plan → ℕ → PlanEdge
edge_at plan number = unwrap_or (slice_get plan.edges number) no_edge

-- the edges from which a leaf's requests come
abbrev pub ins_of : Plan → Leaf → List PlanEdge
ins_of plan leaf = map (edge_at plan) leaf.ins

-- the edges to which they go
abbrev pub outs_of : Plan → Leaf → List PlanEdge
outs_of plan leaf = map (edge_at plan) leaf.outs

-- the slaves of some edges, joined in order
abbrev pub joined_slaves : List PlanEdge → List Slave
joined_slaves edges = flat_map (λ (edge : PlanEdge). edge.slaves) edges

-- the width of an edge's bus, in bytes
abbrev pub bus_width : PlanEdge → ℕ
bus_width edge = edge.bundle.data_bytes

-- ---- who puts requests onto edges, and who takes them

-- the numbers of some ports' edges
abbrev pub port_edges : List PlanPort → List ℕ
port_edges ports = map (λ (port : PlanPort). port.edge) ports

-- the edges onto which leaves and source ports put requests
abbrev pub given_edges : Plan → List ℕ
given_edges plan = flat_map (λ (leaf : Leaf). leaf.outs) plan.leaves ++ port_edges plan.sources

-- the edges from which leaves and sink ports take them
abbrev pub taken_edges : Plan → List ℕ
taken_edges plan = flat_map (λ (leaf : Leaf). leaf.ins) plan.leaves ++ port_edges plan.sinks

-- how often a number stands in a list
abbrev pub times : ℕ → List ℕ → ℕ
times number [] = 0
times number (other ∷ others) = cond (number == other) 1 0 + times number others

-- the place among a leaf's outs, or a source port, by their numbers
pub data Giver : Type 0 where
  Out : (leaf place : ℕ) → Giver
  Source : (port : ℕ) → Giver

-- the place among a leaf's ins, or a sink port, by their numbers
pub data Taker : Type 0 where
  In : (leaf place : ℕ) → Taker
  Sink : (port : ℕ) → Taker

-- a giver puts requests onto an edge
abbrev pub GivesTo : Plan → ℕ → Giver → Type 0
GivesTo plan edge (Out leaf place) =
    (above : Leaf) × (slice_get plan.leaves leaf ≡ Some above) × (slice_get above.outs place ≡ Some edge)
GivesTo plan edge (Source port) = (at : PlanPort) × (slice_get plan.sources port ≡ Some at) × (at.edge ≡ edge)

-- a taker takes them from it
abbrev pub TakesFrom : Plan → ℕ → Taker → Type 0
TakesFrom plan edge (In leaf place) =
    (below : Leaf) × (slice_get plan.leaves leaf ≡ Some below) × (slice_get below.ins place ≡ Some edge)
TakesFrom plan edge (Sink port) = (at : PlanPort) × (slice_get plan.sinks port ≡ Some at) × (at.edge ≡ edge)

-- ---- ways from edge to edge

-- requests go from an edge on to the next: a leaf takes from the one and gives to the other
pub record LeadsTo (plan : Plan) (edge next : ℕ) : Type 0 where
  pub leaf : ℕ
  pub through : Leaf
  pub is : slice_get plan.leaves leaf ≡ Some through
  pub taken : Contains through.ins edge
  pub given : Contains through.outs next

-- a way: from an edge over others in a row, each followed by the next
abbrev pub IsWay : Plan → ℕ → List ℕ → Type 0
IsWay plan edge [] = Unit {0}
IsWay plan edge (next ∷ others) = LeadsTo plan edge next × IsWay plan next others

-- no way comes back to the edge from which it starts
abbrev pub NoneReturns : Plan → Type 0
NoneReturns plan = (edge : ℕ) (others : List ℕ) → IsWay plan edge others → Contains others edge → ⊥
