use Rattle.sim_ports.proofs.Worked.{atomics_example, memories_example, port_example, sink_example}
use Rattle.sim_ports.proofs.laws.examples_law.Goals as goal

pub returns-clause-atomics : goal.returns-clause-atomics
returns-clause-atomics c = atomics_example

pub returns-clause-memories : goal.returns-clause-memories
returns-clause-memories c = memories_example

pub returns-clause-port : goal.returns-clause-port
returns-clause-port c = port_example

pub returns-clause-sink : goal.returns-clause-sink
returns-clause-sink c = sink_example
