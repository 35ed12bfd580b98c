use Rattle.std.proofs.Common.{◌*◌}
use Rattle.net_build.specs.Values.{Adds}
use Rattle.tl_pieces.specs.TwoBuses.{lanes_at}
use Rattle.net_lanes.specs.Lanes.{AreTabled}
use Rattle.net_lanes.proofs.lanes.cut_all.Given as goal

abbrev pub invariant-loop-place : goal.invariant-loop-place
invariant-loop-place l = record {
  adds : Adds l.fn.builder l.builder;
  lanes : AreTabled l.builder l.unit l.place (λ v place. lanes_at 2 l.unit (l.unit * place) (v l.wire.number)) l.out;
}
