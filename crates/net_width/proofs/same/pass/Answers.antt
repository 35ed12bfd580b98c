use Rattle.net_build.proofs.Steps.{tells_adds}
use Rattle.net_width.proofs.same.pass.Goals as goal

pub returns-clause-tells : goal.returns-clause-tells
returns-clause-tells c = tells_adds _ _ c.in_ok-valid.valid _ c.in_ok-items.ensures.adds c.in_ok-valid.ensures.tells
