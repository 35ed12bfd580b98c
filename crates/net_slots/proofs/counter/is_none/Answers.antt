use Rattle.net_slots.proofs.Counted.{none_tells}
use Rattle.net_slots.proofs.counter.is_none.Goals as goal

pub returns-clause-tells : goal.returns-clause-tells
returns-clause-tells c = none_tells _ _ c.args.left c.in_ok-none.none c.in_ok-wire.wire c.in_ok-wire.ensures.adds c.in_ok-none.ensures.value c.in_ok-wire.ensures.value
