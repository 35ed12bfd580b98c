use Rattle.net_gate.proofs.Stepped.{may_tells}
use Rattle.net_gate.proofs.steps.may_pass.Goals as goal

pub returns-clause-tells : goal.returns-clause-tells
returns-clause-tells c = may_tells _ _ c.args.unlocked c.args.mine.now c.args.wants.now c.in_ok-opens.opens c.in_ok-free.free c.in_ok-may.may c.as_slice-2.result.now c.as_slice.result.now c.in_ok-may.ensures.adds
    c.in_ok-opens.ensures c.as_slice.ensures c.as_slice-2.ensures c.in_ok-free.ensures.tells c.in_ok-may.ensures.tells
