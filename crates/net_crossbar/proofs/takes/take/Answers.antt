use Rattle.net_crossbar.proofs.Served.{grants_bits, taken_told}
use Rattle.net_crossbar.proofs.takes.take.Goals as goal

pub any-requires : goal.any-requires
any-requires c = grants_bits _ c.args.count c.args.head c.args.servings.now _ _ c.as_slice.ensures c.in_ok-grants.ensures c.requires.grants c.requires.head

pub returns-clause-tells : goal.returns-clause-tells
returns-clause-tells c = taken_told _ c.args.head c.args.servings.now _ _ c.in_ok-wire.wire c.as_slice.ensures c.in_ok-grants.ensures c.in_ok-wire.ensures.bit c.in_ok-wire.ensures.tells
