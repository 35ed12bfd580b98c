use Rattle.std.proofs.Common.{◌≡◌, ◌+◌, drop}
use Rattle.dip_rule.specs.Boxed.{stated_by}
use Rattle.dip_checks.specs.Weights.{node_weights}
use Rattle.dip_checks.proofs.weights.node_weights.Given as goal

abbrev pub invariant-loop-node : goal.invariant-loop-node
invariant-loop-node g l = l.weight + node_weights (stated_by (goal.Rule-dyn g) l.rules) l.node (drop l.node l.nodes) l.edges l.downs l.ups ≡ node_weights (stated_by (goal.Rule-dyn g) l.rules) 0 l.nodes l.edges l.downs l.ups
