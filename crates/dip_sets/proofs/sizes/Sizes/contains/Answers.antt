use Rattle.std.proofs.Common.{rules}
use Rattle.dip_sets.proofs.Ranges.{size_from_test}
use Rattle.dip_sets.proofs.sizes.Sizes.contains.Goals as goal

pub returns-then-self-bytes-clause-members : goal.returns-then-self-bytes-clause-members
returns-then-self-bytes-clause-members c = size_from_test c.args.self.now c.args.bytes _ (search rules)

pub returns-else-self-bytes-clause-members : goal.returns-else-self-bytes-clause-members
returns-else-self-bytes-clause-members c = size_from_test c.args.self.now c.args.bytes _ (search rules)
