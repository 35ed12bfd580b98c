use Rattle.std.proofs.Common.{arith}
use Rattle.dip_sets.proofs.Blocks.{split_end, split_is, split_members, split_apart}
use Rattle.dip_sets.proofs.region.split_region.Goals as goal

pub returns-clause-split : goal.returns-clause-split
returns-clause-split c = split_end c.args.start c.args.size c.loop-left.base c.loop-left.left _ (omega arith) c.loop-left.invariant.split

pub returns-clause-list : goal.returns-clause-list
returns-clause-list c = split_is c.args.start c.args.size _ (omega arith) (returns-clause-split c)

pub returns-clause-members : goal.returns-clause-members
returns-clause-members c = split_members c.args.start c.args.size _ (returns-clause-split c)

pub returns-clause-disjoint : goal.returns-clause-disjoint
returns-clause-disjoint c = split_apart c.args.start c.args.size _ (returns-clause-split c)
