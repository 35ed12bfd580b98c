use Rattle.std.proofs.Common.{◌≡◌, ◌++◌, drop}
use Rattle.net_parts.specs.Wired.{wires_of_edges}
use Rattle.net_leaves.proofs.leaves.edges_by.Given as goal

abbrev pub invariant-loop-number : goal.invariant-loop-number
invariant-loop-number l = record {
  rest : l.out ++ wires_of_edges l.edges (drop l.number-index l.numbers) ≡ wires_of_edges l.edges l.numbers;
}
