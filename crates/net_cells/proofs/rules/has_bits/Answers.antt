use Rattle.std.proofs.Common.{rules}
use Rattle.net_cells.proofs.Nets.{wide_bits}
use Rattle.net_cells.proofs.rules.has_bits.Goals as goal

pub returns-then-width-ge-BITS : goal.returns-then-width-ge-BITS
returns-then-width-ge-BITS c = (λ _. wide_bits _ _ c.ranges.value.fits c.if-width-ge-BITS.true, λ _. search rules)
