use Rattle.bench_stimulus.specs.Ready.{AreAllBelow}
use Rattle.bench_stimulus.proofs.memory.below.Given as goal

abbrev pub invariant-loop-address : goal.invariant-loop-address
invariant-loop-address l = AreAllBelow l.address l.addresses.items
