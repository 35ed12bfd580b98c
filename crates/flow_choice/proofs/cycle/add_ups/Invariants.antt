use Rattle.std.proofs.Common.{◌≡◌, ◌-◌, ◌++◌}
use Rattle.std.specs.Prelude.{flat_map}
use Rattle.std.specs.List.{range_with_len}
use Rattle.flow_choice.specs.Choosing.{chosen_up}
use Rattle.flow_choice.proofs.cycle.add_ups.Given as goal

abbrev pub invariant-loop-input : goal.invariant-loop-input
invariant-loop-input l =
    l.list ++ flat_map (chosen_up l.network l.leaf) (range_with_len l.input (l.inputs - l.input))
    ≡ l.initial.list ++ flat_map (chosen_up l.network l.leaf) (range_with_len 0 l.inputs)
