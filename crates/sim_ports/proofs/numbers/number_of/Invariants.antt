use Rattle.std.proofs.Common.{◌≡◌, ◌-◌, length, drop}
use Rattle.tl_edge.specs.Beats.{of_digits}
use Rattle.sim_ports.proofs.numbers.number_of.Given as goal

abbrev pub invariant-loop-count : goal.invariant-loop-count
invariant-loop-count l = l.number ≡ of_digits 256 (drop (length l.bytes - l.count) l.bytes)
