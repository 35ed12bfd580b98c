use Rattle.std.proofs.Common.{◌≡◌, ◌++◌, drop}
use Rattle.soc_report.specs.MapText as spec
use Rattle.soc_report.proofs.slaves.add_slave_lines.Given as goal

abbrev pub invariant-loop-slave : goal.invariant-loop-slave
invariant-loop-slave l =
    l.text ++ spec.slave_lines l.nodes (drop l.slave-index l.slaves) ≡ l.initial.text ++ spec.slave_lines l.nodes l.slaves
