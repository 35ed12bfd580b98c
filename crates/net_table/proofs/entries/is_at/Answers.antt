use Rattle.net_table.proofs.Indexed.{is_number}
use Rattle.net_table.proofs.entries.is_at.Goals as goal

pub returns-clause-tells : goal.returns-clause-tells
returns-clause-tells c = is_number _ _ c.args.index c.in_ok-number.number c.in_ok-wire.wire c.args.place c.in_ok-wire.ensures.adds c.in_ok-number.ensures.value c.in_ok-wire.ensures.value
