use Rattle.net_top.proofs.Networks.{implements}
use Rattle.net_top.proofs.laws.whole_law.Goals as goal

pub returns : goal.returns
returns c = λ b plan ports laid shown netlist sound whole is keeps.
    implements b plan ports laid shown sound whole netlist is keeps c.wired_law.ensures (c.machines_law.ensures)
