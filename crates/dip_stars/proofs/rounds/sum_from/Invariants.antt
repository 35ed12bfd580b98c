use Rattle.std.proofs.Common.{◌≡◌, ◌+ℤ◌, drop}
use Rattle.dip_stars.specs.Rounds.{sum_from}
use Rattle.dip_stars.proofs.rounds.sum_from.Given as goal

abbrev pub invariant-loop-count : goal.invariant-loop-count
invariant-loop-count l = l.sum +ℤ sum_from l.node (drop l.count-index l.counts) ≡ sum_from l.node l.counts
