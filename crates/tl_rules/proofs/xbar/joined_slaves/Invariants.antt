use Rattle.std.proofs.Common.{◌≡◌, ◌++◌, drop}
use Rattle.std.specs.List.{flat_map}
use Rattle.tl_rules.proofs.xbar.joined_slaves.Given as goal

abbrev pub invariant-loop-port : goal.invariant-loop-port
invariant-loop-port l = l.slaves ++ flat_map (λ port. port.slaves) (drop l.port-index l.outs) ≡ flat_map (λ port. port.slaves) l.outs
