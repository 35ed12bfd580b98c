use Rattle.std.proofs.Common.{◌≤◌, All}
use Rattle.dip_tests.proofs.ranges.counts_of.Given as goal

abbrev pub invariant-loop-number : goal.invariant-loop-number
invariant-loop-number l = All (λ count. count ≤ 1024) l.counts
