use Rattle.net_table.proofs.Indexed.{write_means}
use Rattle.net_table.proofs.entries.write_one.Goals as goal

pub returns-clause-value : goal.returns-clause-value
returns-clause-value c = write_means _ _ _ c.args.entry c.args.write c.args.index c.args.item c.in_ok-here.here c.in_ok-at.at c.in_ok-wire.wire c.args.place c.in_ok-here.ensures.adds c.in_ok-wire.ensures.adds c.in_ok-here.ensures.tells c.in_ok-at.ensures.tells c.in_ok-wire.ensures.value
