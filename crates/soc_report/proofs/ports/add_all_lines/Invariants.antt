use Rattle.std.proofs.Common.{◌≡◌, ◌++◌, drop}
use Rattle.soc_report.specs.MapText as spec
use Rattle.soc_report.proofs.ports.add_all_lines.Given as goal

abbrev pub invariant-loop-number : goal.invariant-loop-number
invariant-loop-number l =
    l.text ++ spec.all_lines l.nodes l.number (drop l.number l.nodes) l.edges l.ups
    ≡ l.initial.text ++ spec.all_lines l.nodes 0 l.nodes l.edges l.ups
