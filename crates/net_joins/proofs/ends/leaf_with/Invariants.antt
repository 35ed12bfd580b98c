use Rattle.std.proofs.Common.{ℕ, ◌<◌}
use Rattle.net_joins.specs.Finding.{LeafHas}
use Rattle.net_joins.proofs.ends.leaf_with.Given as goal

abbrev pub invariant-loop-leaf : goal.invariant-loop-leaf
invariant-loop-leaf l = record {
  none : (leaf place : ℕ) → leaf < l.leaf → LeafHas l.side l.leaves l.edge leaf place → ⊥;
}
