use Rattle.net_build.proofs.Gates.{and_tells}
use Rattle.net_build.proofs.bits.both.Goals as goal

pub returns-clause-tells : goal.returns-clause-tells
returns-clause-tells c = and_tells _ _ _ _ _ c.requires.0 c.requires.1 c.in_ok-wire.ensures.adds c.in_ok-wire.ensures.value
