use Rattle.std.proofs.Common.{◌≡◌, drop}
use Rattle.std.specs.Prelude.{All}
use Rattle.dip_lists.specs.First.{first, places}
use Rattle.dip_checks.specs.Checks.{edge_overlaps}
use Rattle.dip_checks.proofs.Disjointness.{IsApart}
use Rattle.dip_checks.proofs.edges.sets_are_apart.Given as goal

abbrev pub invariant-loop-edge : goal.invariant-loop-edge
invariant-loop-edge l = record {
  rest : first (places (λ number up. edge_overlaps up) l.edge (drop l.edge l.ups)) ≡ first (places (λ number up. edge_overlaps up) 0 l.ups);
  apart : All (IsApart l.ups) l.apart;
}
