use Rattle.std.proofs.Common.{◌≡◌, ◌++◌, drop}
use Rattle.tl_params.specs.Owners as owners
use Rattle.dip_checks.proofs.sets.sets_of.Given as goal

abbrev pub invariant-loop-slave : goal.invariant-loop-slave
invariant-loop-slave l = l.sets ++ owners.sets_of (drop l.slave-index l.slaves) ≡ owners.sets_of l.slaves
