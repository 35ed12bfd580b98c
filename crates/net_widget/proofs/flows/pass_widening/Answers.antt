use Rattle.net_build.proofs.Steps.{adds_adds, bit_adds, tells_adds}
use Rattle.net_widget.proofs.Passed.{both_first, both_second}
use Rattle.net_widget.proofs.flows.pass_widening.Goals as goal

pub returns-clause-put : goal.returns-clause-put
returns-clause-put c = both_first _ _ c.in_ok-go.go c.args.last c.in_ok-put.put _ c.in_ok-put.ensures.adds c.in_ok-go.ensures.tells c.in_ok-put.ensures.tells

pub returns-clause-take : goal.returns-clause-take
returns-clause-take c =
    tells_adds _ _ c.in_ok-take.take _ (adds_adds _ _ _ c.in_ok-go.ensures.adds c.in_ok-put.ensures.adds)
    (both_second _ _ c.args.valid c.in_ok-waits.waits c.in_ok-take.take _ c.in_ok-take.ensures.adds c.in_ok-waits.ensures.tells c.in_ok-take.ensures.tells)

pub returns-clause-bits : goal.returns-clause-bits
returns-clause-bits c = (bit_adds _ _ c.in_ok-take.take (adds_adds _ _ _ c.in_ok-go.ensures.adds c.in_ok-put.ensures.adds) c.in_ok-take.ensures.bit, c.in_ok-put.ensures.bit)
