use Rattle.std.proofs.Common.{◌≡◌, length, map, take}
use Rattle.std.specs.List.{range_with_len}
use Rattle.sim_ports.specs.Rooms.{gathered_flag}
use Rattle.sim_ports.proofs.gather.gather_flags.Given as goal

abbrev pub invariant-loop-number : goal.invariant-loop-number
invariant-loop-number l = record {
  is : take l.number l.into ≡ map (gathered_flag l.width l.beats) (range_with_len 0 l.number);
  same : length l.into ≡ length l.initial.into;
}
