use Rattle.net_build.proofs.Steps.{wire_later}
use Rattle.net_tests.proofs.built.operators.Goals as goal

pub add_operators-requires-clause-wires : goal.add_operators-requires-clause-wires
add_operators-requires-clause-wires c = (wire_later _ _ _ c.in_ok-y.ensures.adds.later c.in_ok-x.ensures.wire.0, c.in_ok-y.ensures.wire.0)
