use Rattle.std.proofs.Common.{◌≡◌, ◌++◌, drop}
use Rattle.dip_lists.specs.First.{places}
use Rattle.dip_graph.specs.Edges.{is_at}
use Rattle.dip_graph.proofs.edges.numbers_at.Given as goal

abbrev pub invariant-loop-number : goal.invariant-loop-number
invariant-loop-number l =
    l.numbers ++ places (λ number edge. is_at l.ends l.node edge) l.number (drop l.number l.edges)
    ≡ places (λ number edge. is_at l.ends l.node edge) 0 l.edges
