use Rattle.std.proofs.Common.{arith}
use Rattle.ver_text.proofs.Numerals.{hex_digits_step}
use Rattle.ver_text.proofs.writing.add_digits.Goals as goal

pub loop-left-preserved : goal.loop-left-preserved
loop-left-preserved c =
    hex_digits_step _ _ _ c.loop-left.left c.args.value _ (omega arith) c.in_ok-add_byte.ensures c.digit_at.ensures c.loop-left.invariant
