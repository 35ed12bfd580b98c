use Rattle.sim_run.proofs.Texts.{texts}
use Rattle.sim_run.proofs.laws.trace_texts_law.Goals as goal

pub returns : goal.returns
returns c = texts
