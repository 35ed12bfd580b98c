use Rattle.net_table.proofs.Indexed.{read_means}
use Rattle.net_table.proofs.entries.read_one.Goals as goal

pub returns-clause-value : goal.returns-clause-value
returns-clause-value c = read_means _ _ c.args.entry c.args.index c.args.rest c.in_ok-here.here c.in_ok-wire.wire c.args.place c.in_ok-wire.ensures.adds c.in_ok-here.ensures.tells c.in_ok-wire.ensures.value
