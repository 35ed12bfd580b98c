use Rattle.std.proofs.Common.{◌≡◌, length}
use Rattle.choice_tests.proofs.made.ports.Given as goal

abbrev pub invariant-loop-edge : goal.invariant-loop-edge
invariant-loop-edge l = length l.ports ≡ l.edge-index
