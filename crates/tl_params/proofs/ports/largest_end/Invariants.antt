use Rattle.std.proofs.Common.{◌≡◌, drop, max}
use Rattle.tl_params.specs.Owners.{largest_end}
use Rattle.tl_params.proofs.ports.largest_end.Given as goal

abbrev pub invariant-loop-master : goal.invariant-loop-master
invariant-loop-master l = max l.largest (largest_end (drop l.master-index l.port.masters)) ≡ largest_end l.port.masters
