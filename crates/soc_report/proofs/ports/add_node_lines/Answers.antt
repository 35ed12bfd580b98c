use Rattle.std.proofs.Common.{arith}
use Rattle.soc_report.proofs.NodeLines.{all_made}
use Rattle.soc_report.proofs.ports.add_node_lines.Goals as goal

pub returns : goal.returns
returns c =
    all_made c.args.nodes.now c.args.number c.args.name.now c.args.ids _ _ c.args.edges.now c.args.ups.now
    c.loop-at.at (omega arith) c.loop-at.invariant
