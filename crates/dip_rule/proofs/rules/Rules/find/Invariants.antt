use Rattle.std.proofs.Common.{◌≡◌, drop, map}
use Rattle.dip_rule.specs.Boxed.{stated_by, stated_entry}
use Rattle.dip_rule.specs.Stated.{place_from}
use Rattle.dip_rule.proofs.rules.Rules.find.Given as goal

abbrev pub invariant-loop-place : goal.invariant-loop-place
invariant-loop-place g l =
    place_from l.place (map (stated_entry (goal.Rule-dyn g)) (drop l.place l.self.entries)) l.kind
    ≡ place_from 0 (stated_by (goal.Rule-dyn g) l.self) l.kind
