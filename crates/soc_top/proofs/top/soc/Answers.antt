use Rattle.soc_top.proofs.Arms.{completed}
use Rattle.soc_top.proofs.top.soc.Goals as goal

pub returns-clause-completed : goal.returns-clause-completed
returns-clause-completed g c = completed _ _ _ _ _ _ c.answer.ensures.answered
