use Rattle.std.proofs.Common.{◌≡◌, ◌-◌, ◌++◌}
use Rattle.std.specs.Prelude.{flat_map}
use Rattle.std.specs.List.{range_with_len}
use Rattle.flow_choice.specs.Choosing.{sink_moves}
use Rattle.flow_choice.proofs.cycle.add_sinks.Given as goal

abbrev pub invariant-loop-port : goal.invariant-loop-port
invariant-loop-port l =
    l.list ++ flat_map (sink_moves l.network l.offers) (range_with_len l.port (l.count - l.port))
    ≡ l.initial.list ++ flat_map (sink_moves l.network l.offers) (range_with_len 0 l.count)
