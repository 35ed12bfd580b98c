use Rattle.net_joins.proofs.Found.{port_wires_are}
use Rattle.net_joins.proofs.ends.port_end.Goals as goal

pub returns : goal.returns
returns c = port_wires_are c.args.ends.now c.args.port c.index-ends-port.result c.in_ok-wires.wires c.requires c.index-ends-port.is c.in_ok-wires.ensures
