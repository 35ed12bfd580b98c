use Rattle.net_build.proofs.Steps.{tells_adds}
use Rattle.net_widget.proofs.Passed.{both_first}
use Rattle.net_widget.proofs.flows.pass_narrowing.Goals as goal

pub returns-clause-put : goal.returns-clause-put
returns-clause-put c = tells_adds _ _ c.in_ok-put.put _ c.in_ok-take.ensures.adds c.in_ok-put.ensures.tells

pub returns-clause-take : goal.returns-clause-take
returns-clause-take c = both_first _ _ c.in_ok-put.put c.args.last c.in_ok-take.take _ c.in_ok-take.ensures.adds c.in_ok-put.ensures.tells c.in_ok-take.ensures.tells
