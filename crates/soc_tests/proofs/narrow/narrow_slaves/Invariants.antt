use Rattle.std.proofs.Common.{◌≡◌, ◌++◌, drop}
use Rattle.soc_tests.specs.NarrowPorts.{narrow_slaves}
use Rattle.soc_tests.proofs.narrow.narrow_slaves.Given as goal

abbrev pub invariant-loop-slave : goal.invariant-loop-slave
invariant-loop-slave l = l.narrow ++ narrow_slaves (drop l.slave-index l.slaves) ≡ narrow_slaves l.slaves
