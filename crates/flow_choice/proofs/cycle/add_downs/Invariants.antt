use Rattle.std.proofs.Common.{◌≡◌, ◌-◌, ◌++◌}
use Rattle.std.specs.Prelude.{flat_map}
use Rattle.std.specs.List.{range_with_len}
use Rattle.flow_choice.specs.Choosing.{chosen_down}
use Rattle.flow_choice.proofs.cycle.add_downs.Given as goal

abbrev pub invariant-loop-output : goal.invariant-loop-output
invariant-loop-output l =
    l.list ++ flat_map (chosen_down l.network l.leaf) (range_with_len l.output (l.outputs - l.output))
    ≡ l.initial.list ++ flat_map (chosen_down l.network l.leaf) (range_with_len 0 l.outputs)
