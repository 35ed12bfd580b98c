use Rattle.net_choice.proofs.Switched.{switch_tells}
use Rattle.net_choice.proofs.rows.switch_one.Goals as goal

pub returns-clause-tells : goal.returns-clause-tells
returns-clause-tells c = switch_tells _ c.args.pick c.args.x c.args.y c.in_ok-wire.wire c.in_ok-wire.ensures.value
