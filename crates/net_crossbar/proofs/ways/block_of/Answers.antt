use Rattle.net_crossbar.proofs.Blocks.{block_is}
use Rattle.net_crossbar.proofs.ways.block_of.Goals as goal

pub returns : goal.returns
returns c = block_is c.args.range c.ilog2.result c.requires.order c.ilog2.ensures.bound c.requires.power c.requires.aligned c.ilog2.ensures.power_le c.ilog2.ensures.next_power_gt
