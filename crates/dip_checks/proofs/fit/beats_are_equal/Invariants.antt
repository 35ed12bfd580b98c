use Rattle.std.proofs.Common.{◌≡◌, drop}
use Rattle.dip_rule.specs.Boxed.{stated_by}
use Rattle.dip_lists.specs.First.{first, places}
use Rattle.dip_checks.specs.Checks.{nexus_differs}
use Rattle.dip_checks.proofs.fit.beats_are_equal.Given as goal

abbrev pub invariant-loop-node : goal.invariant-loop-node
invariant-loop-node g l =
    first (places (λ node entry. nexus_differs (stated_by (goal.Rule-dyn g) l.rules) l.nodes l.edges l.ups node) l.node (drop l.node l.nodes))
    ≡ first (places (λ node entry. nexus_differs (stated_by (goal.Rule-dyn g) l.rules) l.nodes l.edges l.ups node) 0 l.nodes)
