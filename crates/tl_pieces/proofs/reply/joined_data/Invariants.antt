use Rattle.std.proofs.Common.{◌≡◌, ◌++◌, drop}
use Rattle.tl_pieces.specs.Cutting.{joined_data}
use Rattle.tl_pieces.proofs.reply.joined_data.Given as goal

abbrev pub invariant-loop-answer : goal.invariant-loop-answer
invariant-loop-answer l = l.bytes ++ joined_data (drop l.answer-index l.answers) ≡ joined_data l.answers
