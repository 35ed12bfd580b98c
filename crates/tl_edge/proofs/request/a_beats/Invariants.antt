use Rattle.std.proofs.Common.{◌≡◌, ◌++◌, ◌-◌, map}
use Rattle.std.specs.List.{range_with_len}
use Rattle.tl_edge.specs.Beats.{a_beat, beats_of_request}
use Rattle.tl_edge.proofs.request.a_beats.Given as goal

abbrev pub invariant-loop-number : goal.invariant-loop-number
invariant-loop-number l = l.list ++ map (a_beat l.width l.request) (range_with_len l.number (l.number-end - l.number)) ≡ beats_of_request l.width l.request
