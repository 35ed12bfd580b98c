use Rattle.net_gate.proofs.Stepped.{late_tells}
use Rattle.net_gate.proofs.steps.late_in_turn.Goals as goal

pub returns-clause-tells : goal.returns-clause-tells
returns-clause-tells c = late_tells _ _ c.args.begins c.args.grants.now c.args.late.now c.in_ok-behind.behind c.in_ok-next.next c.as_slice.result.now c.in_ok-next.ensures.adds c.in_ok-behind.ensures.tells c.as_slice.ensures c.in_ok-next.ensures.tells
