use Rattle.dip_rule.specs.Boxed.{stated_by}
use Rattle.dip_negotiate.specs.Demands.{IsLazy}
use Rattle.rule_tests.proofs.lazy.walk.Given as goal

abbrev pub invariant-loop-word : goal.invariant-loop-word
invariant-loop-word g l =
    IsLazy (stated_by (goal.Rule-dyn g) l.lazy.rules.now) l.lazy.design.now l.lazy.edges.now l.lazy.down_turns l.lazy.down.items l.lazy.up_turns l.lazy.up.items
