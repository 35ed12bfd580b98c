use Rattle.net_table.proofs.Indexed.{is_number}
use Rattle.net_lanes.proofs.bits.equals.Goals as goal

pub returns-clause-tells : goal.returns-clause-tells
returns-clause-tells c = is_number _ _ c.args.wire c.in_ok-number.number c.in_ok-same.same c.args.value c.in_ok-same.ensures.adds c.in_ok-number.ensures.value c.in_ok-same.ensures.value
