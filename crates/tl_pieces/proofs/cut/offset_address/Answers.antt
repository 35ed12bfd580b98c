use Rattle.std.proofs.Common.{arith}
use Rattle.tl_pieces.proofs.Parts.{offset_fits}
use Rattle.tl_pieces.proofs.cut.offset_address.Goals as goal

pub overflow_add-result : goal.overflow_add-result
overflow_add-result c = omega (arith, offset_fits c.args.address c.args.size c.args.offset c.requires.size c.requires.aligned c.requires.within)
