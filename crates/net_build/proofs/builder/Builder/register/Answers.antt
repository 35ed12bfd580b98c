use Rattle.net_build.proofs.Wires.{register_opens, made_undriven, register_number}
use Rattle.net_build.proofs.builder.Builder.register.Goals as goal

pub returns-clause-opens : goal.returns-clause-opens
returns-clause-opens c = register_opens _ _ _ _ c.in_ok-wire.ensures.later c.in_ok-wire.ensures.made c.in_ok-wire.ensures.wire

pub returns-clause-undriven : goal.returns-clause-undriven
returns-clause-undriven c = made_undriven _ _ _ _ c.in_ok-wire.ensures.later c.in_ok-wire.ensures.made c.in_ok-wire.ensures.wire

pub returns-clause-number : goal.returns-clause-number
returns-clause-number c = register_number c.args.self.now _ _ c.in_ok-wire.ensures.wire
