use Rattle.std.proofs.Common.{◌≡◌, length, map, take}
use Rattle.std.specs.List.{range_with_len}
use Rattle.tl_edge.specs.Beats.{d_beat}
use Rattle.sim_ports.proofs.room.Room.write_beats.Given as goal

abbrev pub invariant-loop-number : goal.invariant-loop-number
invariant-loop-number l = record {
  is : take l.number l.into ≡ map (d_beat l.width l.self.request.address l.self.response) (range_with_len 0 l.number);
  same : length l.into ≡ length l.initial.into;
}
