use Rattle.std.proofs.Common.{◌≡◌, drop}
use Rattle.dip_lists.specs.First.{first, places}
use Rattle.dip_checks.specs.Checks.{edge_is_misaligned}
use Rattle.dip_checks.proofs.edges.misaligned_edge.Given as goal

abbrev pub invariant-loop-edge : goal.invariant-loop-edge
invariant-loop-edge l = first (places (λ number up. edge_is_misaligned up) l.edge (drop l.edge l.ups)) ≡ first (places (λ number up. edge_is_misaligned up) 0 l.ups)
