use Rattle.tl_edge.specs.Messages.{AreBytes}
use Rattle.port_tests.proofs.made.bytes.Given as goal

abbrev pub invariant-loop-place : goal.invariant-loop-place
invariant-loop-place l = AreBytes l.list
