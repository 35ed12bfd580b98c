use Rattle.std.proofs.Common.{◌≡◌, ◌++◌, ◌-◌, map}
use Rattle.std.specs.List.{range_with_len}
use Rattle.tl_pieces.specs.Cutting.{piece_at, cut_at}
use Rattle.tl_pieces.proofs.cut.all_pieces.Given as goal

abbrev pub invariant-loop-number : goal.invariant-loop-number
invariant-loop-number l = l.pieces ++ map (piece_at l.most l.request) (range_with_len l.number (l.number-end - l.number)) ≡ cut_at l.most l.request
