use Rattle.std.proofs.Common.{◌≡◌, drop}
use Rattle.std.specs.List.{list_all}
use Rattle.dip_graph.specs.Orders.{is_met}
use Rattle.dip_graph.proofs.ordering.is_ready.Given as goal

abbrev pub invariant-loop-bind : goal.invariant-loop-bind
invariant-loop-bind l = list_all (is_met l.listed l.node) (drop l.bind-index l.binds) ≡ list_all (is_met l.listed l.node) l.binds
