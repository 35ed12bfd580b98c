use Rattle.std.proofs.Common.{◌∙◌, arith}
use Rattle.net_gate.proofs.Stepped.{one_width, one_width_is, rest_means}
use Rattle.net_gate.proofs.steps.rest_of.Goals as goal

pub choose-requires-clause-values : goal.choose-requires-clause-values
choose-requires-clause-values c = one_width _ c.args.width c.args.rests.now (omega (arith, c.requires.some, c.requires.long)) c.requires.rests

pub returns-clause-wire : goal.returns-clause-wire
returns-clause-wire c = (c.in_ok-rest.ensures.wire.0, c.in_ok-rest.ensures.wire.1 ∙ one_width_is _ c.args.width c.args.rests.now (omega (arith, c.requires.some, c.requires.long)) c.requires.rests)

pub returns-clause-value : goal.returns-clause-value
returns-clause-value c = rest_means _ c.in_ok-rest.rest c.args.grants.now c.args.rests.now c.in_ok-rest.ensures.value
