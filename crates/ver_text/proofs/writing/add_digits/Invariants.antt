use Rattle.std.proofs.Common.{◌≡◌, ◌++◌}
use Rattle.ver_text.specs.Numerals.{hex_digits}
use Rattle.ver_text.proofs.writing.add_digits.Given as goal

abbrev pub invariant-loop-left : goal.invariant-loop-left
invariant-loop-left l = l.text ++ hex_digits l.left l.value ≡ l.initial.text ++ hex_digits l.count l.value

abbrev pub decreases-loop-left : goal.decreases-loop-left
decreases-loop-left l = l.left
