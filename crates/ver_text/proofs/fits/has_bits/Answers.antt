use Rattle.ver_text.proofs.Numerals.{bits_wide, bits_shifted}
use Rattle.ver_text.proofs.fits.has_bits.Goals as goal

pub returns-then-width-ge-BITS : goal.returns-then-width-ge-BITS
returns-then-width-ge-BITS c = bits_wide _ _ c.ranges.value.fits c.if-width-ge-BITS.true

pub returns : goal.returns
returns c = bits_shifted c.args.value c.args.width
