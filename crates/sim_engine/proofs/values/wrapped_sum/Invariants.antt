use Rattle.std.proofs.Common.{◌≡◌, ◌+◌, ◌%◌, ◌^◌, drop, sum}
use Rattle.sim_engine.proofs.values.wrapped_sum.Given as goal

abbrev pub invariant-loop-value : goal.invariant-loop-value
invariant-loop-value l = (l.total + sum (drop l.value-index l.values)) % 2 ^ 64 ≡ sum l.values % 2 ^ 64
