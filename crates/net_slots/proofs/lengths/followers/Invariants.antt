use Rattle.std.proofs.Common.{◌≡◌, ◌-◌, map}
use Rattle.std.specs.List.{range_with_len}
use Rattle.tl_edge.specs.Beats.{data_beats}
use Rattle.net_slots.proofs.lengths.followers.Given as goal

abbrev pub invariant-loop-size : goal.invariant-loop-size
invariant-loop-size l = l.out ≡ map (λ size. data_beats size l.bus - 1) (range_with_len 0 l.size)
