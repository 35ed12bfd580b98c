use Rattle.std.proofs.Common.{◌≡◌, ◌-◌}
use Rattle.std.specs.Prelude.{find}
use Rattle.std.specs.List.{range_with_len}
use Rattle.flow_core.specs.Network.{is_enabled}
use Rattle.flow_choice.specs.Choosing.{choice_of}
use Rattle.flow_choice.proofs.cycle.first_between.Given as goal

abbrev pub invariant-loop-number : goal.invariant-loop-number
invariant-loop-number l =
    find (λ number. is_enabled l.network (choice_of l.among number)) (range_with_len l.number (l.to - l.number))
    ≡ find (λ number. is_enabled l.network (choice_of l.among number)) (range_with_len l.fn.from (l.to - l.fn.from))
