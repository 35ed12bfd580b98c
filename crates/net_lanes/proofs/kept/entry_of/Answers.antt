use Rattle.net_lanes.proofs.Counted.{entry_means}
use Rattle.net_lanes.proofs.kept.entry_of.Goals as goal

pub returns-clause-value : goal.returns-clause-value
returns-clause-value c = entry_means _ _ c.in_ok-one.one c.args.address c.in_ok-entry.entry c.requires.1 c.in_ok-entry.ensures.adds c.in_ok-one.ensures.value c.in_ok-entry.ensures.value
