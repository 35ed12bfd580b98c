use Rattle.std.proofs.Common.{◌≡◌, drop}
use Rattle.dip_rule.specs.Boxed.{stated_by}
use Rattle.dip_lists.specs.First.{first, places}
use Rattle.soc_build.specs.Kinds.{kind_is_unbuilt}
use Rattle.soc_build.proofs.kinds.unbuilt_node.Given as goal

abbrev pub invariant-loop-number : goal.invariant-loop-number
invariant-loop-number g l =
    first (places (λ number node. kind_is_unbuilt (stated_by (goal.Rule-dyn g) l.rules) node.kind) l.number (drop l.number l.nodes))
    ≡ first (places (λ number node. kind_is_unbuilt (stated_by (goal.Rule-dyn g) l.rules) node.kind) 0 l.nodes)
