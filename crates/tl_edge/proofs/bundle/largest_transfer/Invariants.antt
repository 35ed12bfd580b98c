use Rattle.std.proofs.Common.{◌≡◌, drop, max}
use Rattle.tl_edge.specs.Bundles.{largest_transfer}
use Rattle.tl_edge.proofs.bundle.largest_transfer.Given as goal

abbrev pub invariant-loop-slave : goal.invariant-loop-slave
invariant-loop-slave l = max l.largest (largest_transfer (drop l.slave-index l.slaves)) ≡ largest_transfer l.slaves
