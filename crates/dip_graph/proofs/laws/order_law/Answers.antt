use Rattle.dip_graph.proofs.Behind.{each_stands_behind}
use Rattle.dip_graph.proofs.Bound.{each_waits}
use Rattle.dip_graph.proofs.Complete.{left_out_waits}
use Rattle.dip_graph.proofs.Least.{each_next_is_least}
use Rattle.dip_graph.proofs.laws.order_law.Goals as goal

pub returns-clause-stands : goal.returns-clause-stands
returns-clause-stands c = each_stands_behind

pub returns-clause-waits : goal.returns-clause-waits
returns-clause-waits c = each_waits

pub returns-clause-left : goal.returns-clause-left
returns-clause-left c = left_out_waits

pub returns-clause-least : goal.returns-clause-least
returns-clause-least c = each_next_is_least
