use Rattle.net_build.proofs.Gates.{not_tells}
use Rattle.net_build.proofs.bits.inverse.Goals as goal

pub returns-clause-tells : goal.returns-clause-tells
returns-clause-tells c = not_tells _ _ _ _ c.requires c.in_ok-wire.ensures.adds c.in_ok-wire.ensures.value
