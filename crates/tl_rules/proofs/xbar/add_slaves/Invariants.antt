use Rattle.std.proofs.Common.{◌≡◌, ◌++◌, take}
use Rattle.tl_rules.proofs.xbar.add_slaves.Given as goal

abbrev pub invariant-loop-slave : goal.invariant-loop-slave
invariant-loop-slave l = l.all ≡ l.fn.all ++ take l.slave-index l.slaves
