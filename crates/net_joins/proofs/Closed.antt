-- Edges closed one after another.
use Rattle.std.proofs.Common.{◌≡◌, ℕ, ◌+◌, ◌<◌, ◌≤◌, ◌++◌, List, length, drop, get_or, sym, subst, ap, ◌∙◌, arith, inl, inr}
use Rattle.std.proofs.lemmas.Bool.{cases_lt}
use Rattle.tl_edge.specs.declared.plan.Plan.{Plan}
use Rattle.tl_edge.specs.Plans.{Giver, Taker, GivesTo, TakesFrom}
use Rattle.net_build.specs.declared.types.Wire.{Wire}
use Rattle.net_build.specs.Built.{Built, undriven}
use Rattle.net_build.specs.Registers.{DrivesAll, numbers}
use Rattle.net_build.specs.Values.{Later}
use Rattle.net_queue.specs.declared.types.EdgeWires.{EdgeWires}
use Rattle.net_queue.specs.declared.types.LeafWires.{LeafWires}
use Rattle.net_queue.specs.declared.types.Put.{Put}
use Rattle.net_queue.specs.declared.types.Queue.{Queue}
use Rattle.net_queue.specs.Leaves.{IsPutInto}
use Rattle.net_queue.specs.Queues.{IsListOfTwo, queue_registers}
use Rattle.net_queue.specs.Rows.{AreAlike}
use Rattle.net_parts.specs.declared.types.EndWires.{EndWires}
use Rattle.net_parts.specs.Wired.{IsClosedEdge, giver_end, taker_end, wires_of_edge}
use Rattle.net_leaves.specs.OpenEdges.{all_registers, edge_registers}
use Rattle.net_joins.specs.Closing.{AreClosed}
use Rattle.net_joins.specs.Finding.{IsGiverEnd, IsTakerEnd}
use Rattle.net_joins.proofs.Fronts.{first_edge}
use Rattle.net_joins.proofs.Later.{closed_edge_later}

-- ---- a copy of a queue

pub fits_copy : (b : Built) (queue copy : Queue) (put : Put) (items : List Wire) → copy ≡ queue → items ≡ put.items → IsPutInto b queue put → AreAlike b copy.head items
fits_copy b queue copy put items e f h =
    subst (λ (x : Queue). AreAlike b x.head items) (sym e) (subst (AreAlike b queue.head) (sym f) h.items)

pub drives_copy : (old new : Built) (queue copy : Queue) → copy ≡ queue → DrivesAll old new (numbers (queue_registers copy)) → DrivesAll old new (numbers (queue_registers queue))
drives_copy old new queue copy e h = subst (λ (x : Queue). DrivesAll old new (numbers (queue_registers x))) e h

pub list_copy : (b : Built) (queue copy : Queue) (push pop : Wire) (items these : List Wire) → copy ≡ queue → these ≡ items → IsListOfTwo b copy push these pop → IsListOfTwo b queue push items pop
list_copy b queue copy push pop items these e f h =
    subst (λ (x : Queue). IsListOfTwo b x push items pop) e (subst (λ (ws : List Wire). IsListOfTwo b copy push ws pop) f h)

-- ---- the registers of the next edge are the first

pub next_first : (b : Built) (edges : List EdgeWires) (k : ℕ) (on : EdgeWires) → k < length edges → on ≡ get_or edges k on → undriven b ≡ numbers (all_registers (drop k edges))
    → undriven b ≡ numbers (edge_registers on) ++ numbers (all_registers (drop (k + 1) edges))
next_first b edges k on l is e =
    e ∙ first_edge edges k on l
    ∙ ap (λ (x : EdgeWires). numbers (edge_registers x) ++ numbers (all_registers (drop (k + 1) edges))) (sym is)

-- ---- so many edges

module _ (plan : Plan) (edges : List EdgeWires) (leaves : List LeafWires) (sources sinks : List EndWires) where
  pub none_closed : (b : Built) → AreClosed b plan edges leaves sources sinks 0
  none_closed b = record { each = λ edge giver taker below gives takes. absurd (omega arith) }

  this_closed : (b : Built) (k : ℕ) (on : EdgeWires) (from to : EndWires) → on ≡ wires_of_edge edges k → IsGiverEnd plan k leaves sources from → IsTakerEnd plan k leaves sinks to → IsClosedEdge b on from to
      → (giver : Giver) (taker : Taker) → GivesTo plan k giver → TakesFrom plan k taker → IsClosedEdge b (wires_of_edge edges k) (giver_end leaves sources giver) (taker_end leaves sinks taker)
  this_closed b k on from to e f t h giver taker gives takes =
      subst (λ (x : EdgeWires). IsClosedEdge b x (giver_end leaves sources giver) (taker_end leaves sinks taker)) e
      (subst (λ (x : EndWires). IsClosedEdge b on x (taker_end leaves sinks taker)) (f.is giver gives)
      (subst (λ (x : EndWires). IsClosedEdge b on from x) (t.is taker takes) h))

  pub one_more_closed : (old new : Built) (k : ℕ) (on : EdgeWires) (from to : EndWires) → Later old new → AreClosed old plan edges leaves sources sinks k → on ≡ wires_of_edge edges k → IsGiverEnd plan k leaves sources from → IsTakerEnd plan k leaves sinks to
      → IsClosedEdge new on from to → AreClosed new plan edges leaves sources sinks (k + 1)
  one_more_closed old new k on from to g c e f t h = record {
    each = λ edge giver taker below gives takes.
        elim (cases_lt edge k) [
          | inl less ↦ closed_edge_later old new (wires_of_edge edges edge) (giver_end leaves sources giver) (taker_end leaves sinks taker) g (c.each edge giver taker less gives takes)
          | inr other ↦
              let q : k ≡ edge = omega arith in
              subst (λ (n : ℕ). IsClosedEdge new (wires_of_edge edges n) (giver_end leaves sources giver) (taker_end leaves sinks taker)) q
              (this_closed new k on from to e f t h giver taker (subst (λ (n : ℕ). GivesTo plan n giver) (sym q) gives) (subst (λ (n : ℕ). TakesFrom plan n taker) (sym q) takes))
        ];
  }

  pub fewer_closed : (b : Built) (k count : ℕ) → count ≤ k → AreClosed b plan edges leaves sources sinks k → AreClosed b plan edges leaves sources sinks count
  fewer_closed b k count l c = record { each = λ edge giver taker below gives takes. c.each edge giver taker (omega arith) gives takes }
