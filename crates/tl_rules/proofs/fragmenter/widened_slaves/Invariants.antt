use Rattle.std.proofs.Common.{◌≡◌, take, map}
use Rattle.tl_rules.specs.Fragments.{widened_slave}
use Rattle.tl_rules.proofs.fragmenter.widened_slaves.Given as goal

abbrev pub invariant-loop-slave : goal.invariant-loop-slave
invariant-loop-slave l = l.wide ≡ map (widened_slave l.fragments) (take l.slave-index l.slaves)
