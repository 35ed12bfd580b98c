use Rattle.std.proofs.Common.{◌≡◌, ◌++◌, ◌-◌, map}
use Rattle.std.specs.List.{range_with_len}
use Rattle.tl_edge.specs.Beats.{d_beat, beats_of_response}
use Rattle.tl_edge.proofs.response.d_beats.Given as goal

abbrev pub invariant-loop-number : goal.invariant-loop-number
invariant-loop-number l = l.list ++ map (d_beat l.width l.request.address l.response) (range_with_len l.number (l.number-end - l.number)) ≡ beats_of_response l.width l.request.address l.response
