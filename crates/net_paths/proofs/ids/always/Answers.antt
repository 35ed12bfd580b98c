use Rattle.net_paths.proofs.Prefixed.{held_tells, unheld_tells}
use Rattle.net_paths.proofs.ids.always.Goals as goal

pub returns-then-held-clause-tells : goal.returns-then-held-clause-tells
returns-then-held-clause-tells c = held_tells _ c.in_ok-wire.wire c.args.held c.if-held.true c.in_ok-wire.ensures.value

pub returns-clause-tells : goal.returns-clause-tells
returns-clause-tells c = unheld_tells _ c.in_ok-wire-2.wire c.args.held c.if-held.false c.in_ok-wire-2.ensures.value
