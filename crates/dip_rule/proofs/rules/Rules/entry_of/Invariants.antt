use Rattle.std.proofs.Common.{◌≡◌, drop, map}
use Rattle.dip_rule.specs.Boxed.{stated_by, stated_entry}
use Rattle.dip_rule.specs.Stated.{rule_of}
use Rattle.dip_rule.proofs.rules.Rules.entry_of.Given as goal

abbrev pub invariant-loop-entry : goal.invariant-loop-entry
invariant-loop-entry g l =
    rule_of (map (stated_entry (goal.Rule-dyn g)) (drop l.entry-index l.self.entries)) l.kind
    ≡ rule_of (stated_by (goal.Rule-dyn g) l.self) l.kind
