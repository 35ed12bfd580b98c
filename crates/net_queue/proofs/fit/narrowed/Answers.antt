use Rattle.std.proofs.Common.{arith, ◌∙◌}
use Rattle.net_queue.proofs.Fitted.{keeps_low}
use Rattle.net_queue.proofs.fit.narrowed.Goals as goal

pub returns-clause-keeps : goal.returns-clause-keeps
returns-clause-keeps c = keeps_low _ c.args.wire c.in_ok-low.low c.args.width c.requires.width.0 (c.in_ok-low.ensures.wire.1 ∙ omega (arith, c.requires.width.0)) c.in_ok-low.ensures.value
