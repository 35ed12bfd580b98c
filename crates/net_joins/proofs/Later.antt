-- What stays of queues and their ends as a builder grows.
use Rattle.std.proofs.Common.{ℕ, List}
use Rattle.tl_edge.specs.declared.plan.Plan.{Plan}
use Rattle.net_build.specs.declared.types.Wire.{Wire}
use Rattle.net_build.specs.Built.{Built}
use Rattle.net_build.specs.Values.{Later}
use Rattle.net_queue.specs.declared.types.EdgeWires.{EdgeWires}
use Rattle.net_queue.specs.declared.types.LeafWires.{LeafWires}
use Rattle.net_queue.specs.declared.types.Queue.{Queue}
use Rattle.net_queue.specs.Queues.{IsListOfTwo}
use Rattle.net_parts.specs.declared.types.EndWires.{EndWires}
use Rattle.net_parts.specs.Wired.{IsClosedEdge, giver_end, taker_end, wires_of_edge}
use Rattle.net_joins.specs.Closing.{AreClosed}

-- a closed queue stays a list of at most two
pub list_later : (old new : Built) (queue : Queue) (push : Wire) (items : List Wire) (pop : Wire) → Later old new → IsListOfTwo old queue push items pop → IsListOfTwo new queue push items pop
list_later old new queue push items pop g h = record {
  starts = λ v a. h.starts v (g.starts v a);
  shows = λ v beats s x. h.shows v beats (g.back v s) x;
  moves = λ v u beats s t z x m. h.moves v u beats (g.back v s) (g.ticks v u t) z x m;
  resets = λ v u s t z. h.resets v u (g.back v s) (g.ticks v u t) z;
}

-- a closed edge stays closed
pub closed_edge_later : (old new : Built) (edge : EdgeWires) (giver taker : EndWires) → Later old new → IsClosedEdge old edge giver taker → IsClosedEdge new edge giver taker
closed_edge_later old new edge giver taker g h = record {
  a = list_later old new edge.a giver.put.valid giver.put.items taker.take g h.a;
  d = list_later old new edge.d taker.put.valid taker.put.items giver.take g h.d;
}

-- all closed edges stay closed
pub closed_later : (old new : Built) (plan : Plan) (edges : List EdgeWires) (leaves : List LeafWires) (sources sinks : List EndWires) (count : ℕ) → Later old new → AreClosed old plan edges leaves sources sinks count
    → AreClosed new plan edges leaves sources sinks count
closed_later old new plan edges leaves sources sinks count g h = record {
  each = λ edge giver taker below gives takes.
      closed_edge_later old new (wires_of_edge edges edge) (giver_end leaves sources giver) (taker_end leaves sinks taker) g (h.each edge giver taker below gives takes);
}
