use Rattle.tl_edge.proofs.Widths.{least_bits}
use Rattle.tl_edge.proofs.bundle.bits_for.Goals as goal

pub returns-clause-least : goal.returns-clause-least
returns-clause-least c = least_bits _ _ _ c.digits_of.ensures.value c.max.ensures
