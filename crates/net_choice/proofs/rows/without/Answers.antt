use Rattle.net_choice.proofs.Paired.{without}
use Rattle.net_choice.proofs.rows.without.Goals as goal

pub returns-clause-tells : goal.returns-clause-tells
returns-clause-tells c = without _ _ c.args.x c.args.y c.in_ok-free.free c.in_ok-wire.wire c.in_ok-wire.ensures.adds c.in_ok-free.ensures.tells c.in_ok-wire.ensures.tells
