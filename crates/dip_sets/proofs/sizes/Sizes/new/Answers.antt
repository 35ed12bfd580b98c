use Rattle.std.proofs.Common.{rules}
use Rattle.dip_sets.proofs.Ranges.{pair_from_test}
use Rattle.dip_sets.proofs.sizes.Sizes.new.Goals as goal

pub returns-then-max-le256-clause-pair : goal.returns-then-max-le256-clause-pair
returns-then-max-le256-clause-pair c = pair_from_test c.args.min c.args.max _ (search rules)

pub returns-else-is_power_of_two-clause-pair : goal.returns-else-is_power_of_two-clause-pair
returns-else-is_power_of_two-clause-pair c = pair_from_test c.args.min c.args.max _ (search rules)
