use Rattle.std.proofs.Common.{◌≡◌, drop, max}
use Rattle.tl_edge.specs.Bundles.{greatest_address}
use Rattle.tl_edge.proofs.bundle.greatest_address.Given as goal

abbrev pub invariant-loop-slave : goal.invariant-loop-slave
invariant-loop-slave l = max l.greatest (greatest_address (drop l.slave-index l.slaves)) ≡ greatest_address l.slaves
