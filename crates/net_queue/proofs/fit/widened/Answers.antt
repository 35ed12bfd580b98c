use Rattle.net_queue.proofs.Fitted.{keeps_wide}
use Rattle.net_queue.proofs.fit.widened.Goals as goal

pub returns-clause-keeps : goal.returns-clause-keeps
returns-clause-keeps c = keeps_wide _ _ c.args.wire c.in_ok-zeros.zeros c.in_ok-wide.wide c.in_ok-wide.ensures.adds c.in_ok-zeros.ensures.value c.in_ok-wide.ensures.value
