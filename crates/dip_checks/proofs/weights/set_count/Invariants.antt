use Rattle.std.proofs.Common.{◌≡◌, ◌+◌, drop}
use Rattle.dip_checks.specs.Weights.{set_count}
use Rattle.dip_checks.proofs.weights.set_count.Given as goal

abbrev pub invariant-loop-slave : goal.invariant-loop-slave
invariant-loop-slave l = l.count + set_count (drop l.slave-index l.slaves) ≡ set_count l.slaves
