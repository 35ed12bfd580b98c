use Rattle.std.proofs.Common.{◌≡◌, drop, max}
use Rattle.tl_edge.specs.Bundles.{last_address}
use Rattle.tl_edge.proofs.bundle.last_address.Given as goal

abbrev pub invariant-loop-set : goal.invariant-loop-set
invariant-loop-set l = max l.last (last_address (drop l.set-index l.slave.addresses)) ≡ last_address l.slave.addresses
