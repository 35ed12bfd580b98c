use Rattle.std.proofs.Common.{◌≡◌, ◌++◌, drop}
use Rattle.dip_rule.specs.Boxed.{stated_by}
use Rattle.dip_stars.specs.Rounds.{first_counts}
use Rattle.dip_stars.proofs.rounds.first_counts.Given as goal

abbrev pub invariant-loop-bind : goal.invariant-loop-bind
invariant-loop-bind g l =
    let rules = stated_by (goal.Rule-dyn g) l.rules in
    l.counts ++ first_counts rules l.nodes (drop l.bind-index l.binds) ≡ first_counts rules l.nodes l.binds
