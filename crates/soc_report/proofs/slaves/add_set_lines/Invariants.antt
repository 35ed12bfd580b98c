use Rattle.std.proofs.Common.{◌≡◌, ◌++◌, drop}
use Rattle.soc_report.specs.MapText as spec
use Rattle.soc_report.proofs.slaves.add_set_lines.Given as goal

abbrev pub invariant-loop-set : goal.invariant-loop-set
invariant-loop-set l =
    l.text ++ spec.set_lines l.nodes l.slave (drop l.set-index l.sets) ≡ l.initial.text ++ spec.set_lines l.nodes l.slave l.sets
