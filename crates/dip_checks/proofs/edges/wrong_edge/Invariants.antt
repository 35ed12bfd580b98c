use Rattle.std.proofs.Common.{◌≡◌, drop}
use Rattle.dip_lists.specs.First.{first, places}
use Rattle.dip_checks.specs.Checks.{masters_are_wrong}
use Rattle.dip_checks.proofs.edges.wrong_edge.Given as goal

abbrev pub invariant-loop-edge : goal.invariant-loop-edge
invariant-loop-edge l = first (places (λ number down. masters_are_wrong down.masters) l.edge (drop l.edge l.downs)) ≡ first (places (λ number down. masters_are_wrong down.masters) 0 l.downs)
