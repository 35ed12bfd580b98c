use Rattle.std.proofs.Common.{◌≡◌, ◌++◌, drop, map}
use Rattle.dip_stars.specs.Rounds.{next_count, next_counts}
use Rattle.dip_stars.proofs.rounds.next_counts.Given as goal

abbrev pub invariant-loop-count : goal.invariant-loop-count
invariant-loop-count l = l.next ++ map (next_count l.nodes l.counts) (drop l.count-index l.counts) ≡ next_counts l.nodes l.counts
