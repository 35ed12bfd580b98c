use Rattle.std.proofs.Common.{sym}
use Rattle.ver_text.proofs.Numerals.{no_bits}
use Rattle.ver_text.proofs.writing.without_bits.Goals as goal

pub returns-then-bits-ge64 : goal.returns-then-bits-ge64
returns-then-bits-ge64 c = sym (no_bits _ _ c.ranges.value.fits c.if-bits-ge64.true)
