use Rattle.std.proofs.Common.{◌≡◌, ℕ, ◌<◌, length}
use Rattle.tl_edge.specs.Plans.{edge_at}
use Rattle.net_build.specs.Registers.{numbers}
use Rattle.net_build.specs.Values.{Opens}
use Rattle.net_queue.specs.Leaves.{IsEdge}
use Rattle.net_parts.specs.Wired.{wires_of_edge}
use Rattle.net_leaves.specs.OpenEdges.{all_registers}
use Rattle.net_leaves.proofs.edges.open_edges.Given as goal

abbrev pub invariant-loop-edge : goal.invariant-loop-edge
invariant-loop-edge l = record {
  opens : Opens l.fn.builder l.builder (numbers (all_registers l.edges));
  long : length l.edges ≡ l.edge-index;
  each : (edge : ℕ) → edge < l.edge-index → IsEdge l.builder (edge_at l.plan edge) (wires_of_edge l.edges edge);
}
