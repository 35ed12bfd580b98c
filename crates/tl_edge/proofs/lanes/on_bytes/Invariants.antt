use Rattle.std.proofs.Common.{◌≡◌, ◌+◌, drop}
use Rattle.tl_edge.specs.Beats.{on_bytes}
use Rattle.tl_edge.proofs.lanes.on_bytes.Given as goal

abbrev pub invariant-loop-place : goal.invariant-loop-place
invariant-loop-place l = l.lanes + on_bytes (l.first + l.place) (drop l.place l.bytes) ≡ on_bytes l.first l.bytes
