use Rattle.std.proofs.Common.{◌≡◌, ◌++◌, drop}
use Rattle.tl_pieces.proofs.reply.append.Given as goal

abbrev pub invariant-loop-byte : goal.invariant-loop-byte
invariant-loop-byte l = l.list ++ drop l.byte-index l.bytes ≡ l.fn.list ++ l.bytes
