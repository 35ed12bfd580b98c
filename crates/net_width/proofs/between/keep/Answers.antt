use Rattle.net_width.proofs.Around.{keep_means}
use Rattle.net_width.proofs.between.keep.Goals as goal

pub returns-clause-value : goal.returns-clause-value
returns-clause-value c = keep_means _ _ c.args.address c.in_ok-low.low c.in_ok-entry.entry c.in_ok-entry.ensures.adds.later c.in_ok-low.ensures.value c.in_ok-entry.ensures.value
