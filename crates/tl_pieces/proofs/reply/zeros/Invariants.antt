use Rattle.std.proofs.Common.{◌≡◌, replicate}
use Rattle.tl_pieces.proofs.reply.zeros.Given as goal

abbrev pub invariant-loop-place : goal.invariant-loop-place
invariant-loop-place l = l.bytes ≡ replicate l._place 0
