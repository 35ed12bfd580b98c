use Rattle.std.proofs.Common.{◌≡◌, ◌-◌, []}
use Rattle.dip_graph.specs.Orders.{order_from}
use Rattle.dip_graph.proofs.ordering.order_of.Given as goal

abbrev pub invariant-loop-turn : goal.invariant-loop-turn
invariant-loop-turn l = order_from l.binds l.nodes l.listed (l.nodes - l._turn) ≡ order_from l.binds l.nodes [] l.nodes
