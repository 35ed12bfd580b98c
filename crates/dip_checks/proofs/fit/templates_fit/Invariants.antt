use Rattle.std.proofs.Common.{◌≡◌, drop}
use Rattle.dip_rule.specs.Boxed.{stated_by}
use Rattle.dip_lists.specs.First.{first, places}
use Rattle.dip_checks.specs.Checks.{kind_misfits}
use Rattle.dip_checks.proofs.fit.templates_fit.Given as goal

abbrev pub invariant-loop-node : goal.invariant-loop-node
invariant-loop-node g l =
    first (places (λ node entry. kind_misfits (stated_by (goal.Rule-dyn g) l.rules) node entry.kind l.edges l.downs l.ups) l.node (drop l.node l.nodes))
    ≡ first (places (λ node entry. kind_misfits (stated_by (goal.Rule-dyn g) l.rules) node entry.kind l.edges l.downs l.ups) 0 l.nodes)
