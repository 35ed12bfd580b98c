-- Where an edge ends, and the wires there. Only what isn't public cites it.
use Rattle.std.specs.Prelude.{◌≡◌, ℕ, List, length, Some, slice_get}
use Rattle.tl_edge.specs.declared.plan.Leaf.{Leaf}
use Rattle.tl_edge.specs.declared.plan.PlanPort.{PlanPort}
use Rattle.tl_edge.specs.declared.plan.Plan.{Plan}
use Rattle.tl_edge.specs.Plans.{Giver, Taker, GivesTo, TakesFrom}
use Rattle.net_build.specs.declared.types.Wire.{Wire}
use Rattle.net_build.specs.Built.{Built, IsBit}
use Rattle.net_queue.specs.declared.types.LeafWires.{LeafWires}
use Rattle.net_queue.specs.declared.types.Put.{Put}
use Rattle.net_queue.specs.declared.types.Queue.{Queue}
use Rattle.net_queue.specs.Leaves.{IsPutInto}
use Rattle.net_parts.specs.declared.types.EndWires.{EndWires}
use Rattle.net_parts.specs.Wired.{giver_end, taker_end, wires_of_leaf}
use Rattle.net_joins.specs.declared.ends.Side.{Side}
use Rattle.net_joins.specs.declared.ends.Side.TheVariants.{Ins, Outs}

-- the edges on one side of a leaf
abbrev pub edges_on : Side → Leaf → List ℕ
edges_on Ins leaf = leaf.ins
edges_on Outs leaf = leaf.outs

-- a leaf has an edge at a place of one side
abbrev pub LeafHas : Side → List Leaf → ℕ → ℕ → ℕ → Type 0
LeafHas side leaves edge leaf place =
    (at : Leaf) × (slice_get leaves leaf ≡ Some at) × (slice_get (edges_on side at) place ≡ Some edge)

-- a port has an edge
abbrev pub PortHas : List PlanPort → ℕ → ℕ → Type 0
PortHas ports edge port = (at : PlanPort) × (slice_get ports port ≡ Some at) × (at.edge ≡ edge)

-- the wires of each leaf have a put and a take for each edge of the leaf
pub record HaveEnds (plan : Plan) (leaves : List LeafWires) : Type 0 where
  pub long : length leaves ≡ length plan.leaves
  pub outs : (leaf : ℕ) (at : Leaf) → slice_get plan.leaves leaf ≡ Some at
      → (length (wires_of_leaf leaves leaf).put_a ≡ length at.outs)
      × (length (wires_of_leaf leaves leaf).take_d ≡ length at.outs)
  pub ins : (leaf : ℕ) (at : Leaf) → slice_get plan.leaves leaf ≡ Some at
      → (length (wires_of_leaf leaves leaf).put_d ≡ length at.ins)
      × (length (wires_of_leaf leaves leaf).take_a ≡ length at.ins)

-- what puts this and takes by this wire
abbrev pub end_with : Put → Wire → EndWires
end_with put take = record { put = put; take = take }

-- these are the wires of whatever gives to an edge
pub record IsGiverEnd (plan : Plan) (edge : ℕ) (leaves : List LeafWires) (sources : List EndWires) (wires : EndWires)
    : Type 0 where
  pub is : (giver : Giver) → GivesTo plan edge giver → wires ≡ giver_end leaves sources giver

-- these are the wires of whatever takes from an edge
pub record IsTakerEnd (plan : Plan) (edge : ℕ) (leaves : List LeafWires) (sinks : List EndWires) (wires : EndWires)
    : Type 0 where
  pub is : (taker : Taker) → TakesFrom plan edge taker → wires ≡ taker_end leaves sinks taker

-- the wires can put into this queue, and take from another
pub record IsEndFor (b : Built) (onto : Queue) (wires : EndWires) : Type 0 where
  pub put : IsPutInto b onto wires.put
  pub take : IsBit b wires.take
