use Rattle.net_widget.proofs.Passed.{either_first}
use Rattle.net_widget.proofs.flows.uses_up.Goals as goal

pub returns-clause-tells : goal.returns-clause-tells
returns-clause-tells c = either_first _ _ c.in_ok-plain.plain c.args.ends c.in_ok-all.all _ c.in_ok-all.ensures.adds c.in_ok-plain.ensures.tells c.in_ok-all.ensures.tells
