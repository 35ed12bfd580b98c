use Rattle.std.proofs.Common.{◌≡◌}
use Rattle.choice_tests.proofs.make_all.Given as goal

abbrev pub invariant-loop-step : goal.invariant-loop-step
invariant-loop-step l = l.network.plan ≡ l.initial.network.plan
