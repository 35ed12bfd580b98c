use Rattle.net_slots.proofs.Cycles.{pass_tells}
use Rattle.net_slots.proofs.slots.let_pass.Goals as goal

pub returns-clause-tells : goal.returns-clause-tells
returns-clause-tells c = pass_tells _ _ _ c.args.wants c.args.idle c.args.some c.in_ok-busy.busy c.in_ok-may.may c.in_ok-passes.passes c.in_ok-may.ensures.adds c.in_ok-passes.ensures.adds c.in_ok-busy.ensures.tells c.in_ok-may.ensures.tells c.in_ok-passes.ensures.tells
