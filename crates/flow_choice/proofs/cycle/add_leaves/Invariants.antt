use Rattle.std.proofs.Common.{◌≡◌, ◌-◌, ◌++◌}
use Rattle.std.specs.Prelude.{flat_map}
use Rattle.std.specs.List.{range_with_len}
use Rattle.flow_choice.specs.Choosing.{leaf_moves}
use Rattle.flow_choice.proofs.cycle.add_leaves.Given as goal

abbrev pub invariant-loop-leaf : goal.invariant-loop-leaf
invariant-loop-leaf l =
    l.list ++ flat_map (leaf_moves l.network) (range_with_len l.leaf (l.count - l.leaf))
    ≡ l.initial.list ++ flat_map (leaf_moves l.network) (range_with_len 0 l.count)
