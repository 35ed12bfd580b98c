use Rattle.std.proofs.Common.{◌≡◌, ◌-◌}
use Rattle.dip_stars.specs.Rounds.{after_rounds}
use Rattle.dip_stars.proofs.rounds.after_rounds.Given as goal

abbrev pub invariant-loop-round : goal.invariant-loop-round
invariant-loop-round l = after_rounds l.nodes (l.rounds - l._round) l.counts ≡ after_rounds l.nodes l.rounds l.fn.first
