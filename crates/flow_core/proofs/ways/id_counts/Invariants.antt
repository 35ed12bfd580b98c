use Rattle.std.proofs.Common.{◌≡◌, take, map}
use Rattle.tl_edge.specs.Plans.{edge_at}
use Rattle.tl_edge.specs.SoundPlans.{ids_of}
use Rattle.flow_core.proofs.ways.id_counts.Given as goal

abbrev pub invariant-loop-edge : goal.invariant-loop-edge
invariant-loop-edge l = l.counts ≡ ids_of (map (edge_at l.plan) (take l.edge-index l.leaf.ins))
