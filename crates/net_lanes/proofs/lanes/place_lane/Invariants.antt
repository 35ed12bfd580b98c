use Rattle.std.proofs.Common.{◌≡◌, ◌*◌}
use Rattle.net_build.specs.Built.{IsWire}
use Rattle.net_build.specs.Values.{Adds, Means}
use Rattle.net_lanes.proofs.Placed.{lanes_below}
use Rattle.net_lanes.proofs.lanes.place_lane.Given as goal

abbrev pub invariant-loop-place : goal.invariant-loop-place
invariant-loop-place l = record {
  adds : Adds l.fn.builder l.builder;
  wire : IsWire l.builder l.lanes × (l.lanes.width ≡ l.wire.width * l.place);
  value : Means l.builder l.lanes (λ v. lanes_below l.wire.width l.place (v l.index.number) (v l.wire.number));
}
