use Rattle.std.proofs.Common.{◌≡◌, ◌+◌, drop}
use Rattle.dip_checks.specs.Weights.{fragmenter_weight}
use Rattle.dip_checks.proofs.weights.fragmenter_weight.Given as goal

abbrev pub invariant-loop-edge : goal.invariant-loop-edge
invariant-loop-edge l = l.weight + fragmenter_weight l.ups (drop l.edge-index l.edges) ≡ fragmenter_weight l.ups l.edges
