-- The rules that a list of boxed rules states, for invariants, which can't quote a trait's member.
use Rattle.std.specs.Prelude.{List, map}
use Rattle.dip_rule.specs.Stated.{StatedRule, stated_rule}
use Rattle.dip_rule.specs.declared.rule.Rule.{Ghosts}
use Rattle.dip_rule.specs.declared.rules.RuleEntry.{RuleEntry}
use Rattle.dip_rule.specs.declared.rules.Rules.{Rules}

-- the rule of an entry, where each box states what `says` has at it
abbrev pub stated_entry : {V : Type 0} {F : V → Type 0}
    → ((box : (v : V) × F v) → Ghosts (F box.0)) → RuleEntry V F → StatedRule
stated_entry says e =
    stated_rule e.kind e.template
    ((says (e.rule.vtable, e.rule.value)).says_down e.rule.value)
    ((says (e.rule.vtable, e.rule.value)).says_up e.rule.value)

-- the rules of all entries in order
abbrev pub stated_by : {V : Type 0} {F : V → Type 0}
    → ((box : (v : V) × F v) → Ghosts (F box.0)) → Rules V F → List StatedRule
stated_by says rules = map (stated_entry says) rules.entries
