use Rattle.std.proofs.Common.{◌≡◌, drop, not}
use Rattle.dip_lists.specs.First.{first, places}
use Rattle.dip_graph.specs.Orders.{is_listed}
use Rattle.dip_graph.proofs.ordering.unlisted.Given as goal

abbrev pub invariant-loop-number : goal.invariant-loop-number
invariant-loop-number l =
    first (places (λ number node. not (is_listed l.order number)) l.number (drop l.number l.nodes)) ≡ first (places (λ number node. not (is_listed l.order number)) 0 l.nodes)
