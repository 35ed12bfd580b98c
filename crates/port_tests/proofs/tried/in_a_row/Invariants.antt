use Rattle.std.proofs.Common.{◌≡◌, ◌+◌, map}
use Rattle.std.specs.List.{range_with_len}
use Rattle.port_tests.proofs.tried.in_a_row.Given as goal

abbrev pub invariant-loop-more : goal.invariant-loop-more
invariant-loop-more l = l.addresses ≡ map (λ k. 256 + k) (range_with_len 0 l.more)
