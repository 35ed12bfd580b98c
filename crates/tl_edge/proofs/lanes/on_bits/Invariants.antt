use Rattle.std.proofs.Common.{◌≡◌, ◌+◌, drop}
use Rattle.tl_edge.specs.Beats.{on_bits}
use Rattle.tl_edge.proofs.lanes.on_bits.Given as goal

abbrev pub invariant-loop-place : goal.invariant-loop-place
invariant-loop-place l = l.lanes + on_bits (l.first + l.place) (drop l.place l.flags) ≡ on_bits l.first l.flags
