use Rattle.std.proofs.Common.{◌≡◌, ◌++◌, drop}
use Rattle.soc_report.specs.MapText as spec
use Rattle.soc_report.proofs.ports.add_node_lines.Given as goal

abbrev pub invariant-loop-at : goal.invariant-loop-at
invariant-loop-at l =
    l.text ++ spec.node_lines l.nodes l.number l.name l.ids (drop l.at l.edges) (drop l.at l.ups)
    ≡ l.initial.text ++ spec.node_lines l.nodes l.number l.name l.ids l.edges l.ups
