use Rattle.std.proofs.Common.{◌≡◌, ◌+◌, drop}
use Rattle.dip_checks.specs.Weights.{width_weight}
use Rattle.dip_checks.proofs.weights.width_weight.Given as goal

abbrev pub invariant-loop-edge : goal.invariant-loop-edge
invariant-loop-edge l = l.weight + width_weight l.downs (drop l.edge-index l.edges) ≡ width_weight l.downs l.edges
