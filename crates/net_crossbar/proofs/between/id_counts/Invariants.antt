use Rattle.std.proofs.Common.{◌≡◌, map, take}
use Rattle.tl_edge.specs.Plans.{edge_at}
use Rattle.net_crossbar.proofs.between.id_counts.Given as goal

abbrev pub invariant-loop-place : goal.invariant-loop-place
invariant-loop-place l = record {
  sofar : l.counts ≡ map (λ edge. (edge_at l.plan edge).ids) (take l.place l.edges);
}
