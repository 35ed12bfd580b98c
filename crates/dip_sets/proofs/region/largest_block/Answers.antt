use Rattle.dip_sets.proofs.Blocks.{block_is_shift}
use Rattle.dip_sets.proofs.region.largest_block.Goals as goal

pub returns : goal.returns
returns c =
    rw c.min.ensures
    (block_is_shift c.args.start c.args.size c.ilog2.result c.ranges.start.fits c.ilog2.ensures.bound c.ilog2.ensures.power_le c.ilog2.ensures.next_power_gt)
