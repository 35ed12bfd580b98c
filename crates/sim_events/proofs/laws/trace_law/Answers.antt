use Rattle.sim_events.proofs.Agreed.{inputs_law, trace_law}
use Rattle.sim_events.proofs.laws.trace_law.Goals as goal

pub returns-clause-inputs : goal.returns-clause-inputs
returns-clause-inputs c = inputs_law

pub returns-clause-trace : goal.returns-clause-trace
returns-clause-trace c = trace_law
