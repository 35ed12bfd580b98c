use Rattle.dip_sets.proofs.Blocks.{block_invariant}
use Rattle.dip_sets.proofs.set.AddressSet.block.Goals as goal

pub invariant_of-result : goal.invariant_of-result
invariant_of-result c = block_invariant c.args.start c.args.block c.requires.power c.requires.divides c.requires.fits
