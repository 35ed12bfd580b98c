use Rattle.std.proofs.Common.{◌≡◌, ◌+◌, drop}
use Rattle.dip_checks.specs.Weights.{all_sets}
use Rattle.dip_checks.proofs.weights.all_sets.Given as goal

abbrev pub invariant-loop-edge : goal.invariant-loop-edge
invariant-loop-edge l = l.count + all_sets l.ups (drop l.edge-index l.edges) ≡ all_sets l.ups l.edges
