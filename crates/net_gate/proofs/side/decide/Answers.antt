use Rattle.net_gate.proofs.AfterGrants.{grants_tell}
use Rattle.net_gate.proofs.side.decide.Goals as goal

pub returns-clause-grants : goal.returns-clause-grants
returns-clause-grants c = grants_tell _ _ c.args.round c.args.unlocked c.args.ready c.args.now.now.mine c.args.wants.now c.args.now.now.late c.as_slice.result.now c.as_slice-2.result.now c.in_ok-may.may c.as_slice-3.result.now c.in_ok-made.made.grants c.in_ok-made.ensures.adds
    c.as_slice.ensures c.as_slice-2.ensures c.in_ok-may.ensures.long c.in_ok-may.ensures.tells c.as_slice-3.ensures c.in_ok-made.ensures.grants
