use Rattle.std.proofs.Common.{◌≡◌, ◌-◌}
use Rattle.dip_graph.specs.Orders.{first_from, is_ready}
use Rattle.dip_graph.proofs.ordering.least_ready.Given as goal

abbrev pub invariant-loop-node : goal.invariant-loop-node
invariant-loop-node l = first_from (is_ready l.binds l.listed) l.node (l.nodes - l.node) ≡ first_from (is_ready l.binds l.listed) 0 l.nodes
