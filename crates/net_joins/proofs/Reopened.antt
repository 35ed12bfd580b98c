-- A queue stays open until its registers are driven.
use Rattle.std.proofs.Common.{◌≡◌, ℕ, List, ◌++◌, length, drop, get_or, ap, ◌∙◌}
use Rattle.std.proofs.lemmas.List.{append_assoc, map-append}
use Rattle.tl_edge.specs.declared.plan.PlanEdge.{PlanEdge}
use Rattle.net_build.specs.declared.types.Wire.{Wire}
use Rattle.net_build.specs.Built.{Built, undriven}
use Rattle.net_build.specs.Registers.{AreUndriven, DrivesAll, numbers}
use Rattle.net_build.specs.Values.{Later}
use Rattle.net_build.proofs.Steps.{later_later, register_later}
use Rattle.net_queue.specs.declared.types.EdgeWires.{EdgeWires}
use Rattle.net_queue.specs.declared.types.Queue.{Queue}
use Rattle.net_queue.specs.Leaves.{IsEdge}
use Rattle.net_queue.specs.Queues.{IsOpen, queue_registers}
use Rattle.net_leaves.specs.OpenEdges.{edge_registers}
use Rattle.net_leaves.proofs.Later.{open_later}
use Rattle.net_joins.specs.Firsts.{WaitFirst, DrivesFirst}
use Rattle.net_joins.proofs.Fronts.{Wait, driven_front, first_split, wait_first, wait_next}

-- a queue whose registers still wait is still open
open_still : (old new : Built) (q : Queue) → Later old new → Wait new (queue_registers q) → IsOpen old q → IsOpen new q
open_still old new q g w o =
    let u : AreUndriven new (queue_registers q) = record {
      each = λ k d l. record {
        register = register_later old new (get_or (queue_registers q) k d) g (o.undriven.each k d l).register;
        waits = w.each k d l;
      };
    } in
    open_later old new q g u o

-- the registers of an edge are those of its two queues
split_edge : (edge : EdgeWires) (rest : List ℕ) → numbers (edge_registers edge) ++ rest ≡ numbers (queue_registers edge.a) ++ (numbers (queue_registers edge.d) ++ rest)
split_edge edge rest =
    ap (λ (ns : List ℕ). ns ++ rest) (map-append (λ (w : Wire). w.number) (queue_registers edge.a) (queue_registers edge.d))
    ∙ append_assoc (numbers (queue_registers edge.a)) (numbers (queue_registers edge.d)) rest

-- an edge whose registers are the first that wait is open
pub edge_open : (old new : Built) (at : PlanEdge) (edge : EdgeWires) (rest : List ℕ) → Later old new → undriven new ≡ numbers (edge_registers edge) ++ rest → IsEdge old at edge → IsOpen new edge.a × IsOpen new edge.d
edge_open old new at edge rest g e h =
    let f : undriven new ≡ numbers (queue_registers edge.a) ++ (numbers (queue_registers edge.d) ++ rest) = e ∙ split_edge edge rest in (
      open_still old new edge.a g (wait_first new (queue_registers edge.a) (numbers (queue_registers edge.d) ++ rest) f) h.a,
      open_still old new edge.d g (wait_next new (queue_registers edge.a) (queue_registers edge.d) rest f) h.d,
    )

-- what waits of an edge before its requests are closed
before : (b : Built) (edge : EdgeWires) → WaitFirst b (edge_registers edge) → undriven b ≡ numbers (queue_registers edge.a) ++ (numbers (queue_registers edge.d) ++ drop (length (edge_registers edge)) (undriven b))
before b edge h = first_split b (edge_registers edge) h ∙ split_edge edge (drop (length (edge_registers edge)) (undriven b))

-- and after that
between : (old mid : Built) (edge : EdgeWires) → WaitFirst old (edge_registers edge) → DrivesAll old mid (numbers (queue_registers edge.a)) → undriven mid ≡ numbers (queue_registers edge.d) ++ drop (length (edge_registers edge)) (undriven old)
between old mid edge h g = driven_front old mid (queue_registers edge.a) (numbers (queue_registers edge.d) ++ drop (length (edge_registers edge)) (undriven old)) (before old edge h) g

-- once the requests are closed the responses are still open
pub responses_open : (old mid : Built) (edge : EdgeWires) → WaitFirst old (edge_registers edge) → DrivesAll old mid (numbers (queue_registers edge.a)) → IsOpen old edge.d → IsOpen mid edge.d
responses_open old mid edge h g o = open_still old mid edge.d g.later (wait_first mid (queue_registers edge.d) (drop (length (edge_registers edge)) (undriven old)) (between old mid edge h g)) o

-- both are closed
pub both_driven : (old mid new : Built) (edge : EdgeWires) → WaitFirst old (edge_registers edge) → DrivesAll old mid (numbers (queue_registers edge.a)) → DrivesAll mid new (numbers (queue_registers edge.d)) → DrivesFirst old new (length (edge_registers edge))
both_driven old mid new edge h g k = record {
  later = later_later old mid new g.later k.later;
  inputs = k.inputs ∙ g.inputs;
  outputs = k.outputs ∙ g.outputs;
  undriven = driven_front mid new (queue_registers edge.d) (drop (length (edge_registers edge)) (undriven old)) (between old mid edge h g) k;
}
