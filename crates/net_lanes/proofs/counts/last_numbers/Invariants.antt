use Rattle.std.proofs.Common.{◌-◌}
use Rattle.net_build.specs.Values.{Adds}
use Rattle.tl_edge.specs.Beats.{data_beats}
use Rattle.net_lanes.specs.Lanes.{AreTabled}
use Rattle.net_lanes.proofs.counts.last_numbers.Given as goal

abbrev pub invariant-loop-size : goal.invariant-loop-size
invariant-loop-size l = record {
  adds : Adds l.fn.builder l.builder;
  numbers : AreTabled l.builder 8 l.size (λ v size. data_beats size l.narrow - 1) l.out;
}
