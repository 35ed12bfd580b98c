use Rattle.std.proofs.Common.{ℕ, ◌+◌, ◌<◌, Contains}
use Rattle.port_tests.proofs.ask.has_all.Given as goal

abbrev pub invariant-loop-more : goal.invariant-loop-more
invariant-loop-more l = (k : ℕ) → k < l.more → Contains l.addresses (l.first + k)
