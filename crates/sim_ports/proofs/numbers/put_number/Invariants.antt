use Rattle.std.proofs.Common.{◌≡◌, ◌-◌, ◌++◌, length, take}
use Rattle.tl_edge.specs.Joined.{digits}
use Rattle.sim_ports.proofs.numbers.put_number.Given as goal

abbrev pub invariant-loop-byte : goal.invariant-loop-byte
invariant-loop-byte l =
    take l.byte-index l.bytes ++ digits 256 (length l.bytes - l.byte-index) l.rest
    ≡ digits 256 (length l.initial.bytes) l.number
