use Rattle.std.proofs.Common.{◌≡◌, drop}
use Rattle.ver_text.specs.Numerals.{numeral}
use Rattle.ver_text.proofs.digits.numeral.Given as goal

abbrev pub invariant-loop-byte : goal.invariant-loop-byte
invariant-loop-byte l = numeral l.base l.so_far (drop l.byte-index l.digits) ≡ numeral l.base 0 l.digits
