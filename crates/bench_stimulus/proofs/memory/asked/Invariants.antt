use Rattle.sim_ports.specs.Kept.{meaning_of}
use Rattle.bench_stimulus.specs.Ready.{HasBelow}
use Rattle.bench_stimulus.proofs.memory.asked.Given as goal

abbrev pub invariant-loop-number : goal.invariant-loop-number
invariant-loop-number l = HasBelow l.count (meaning_of l.cells)
