use Rattle.net_build.specs.declared.types.Made.{Made}
use Rattle.net_build.specs.Built.{port_of}
use Rattle.net_build.proofs.Picked.{picked_step}
use Rattle.net_build.proofs.finish.ports_of.Goals as goal

pub loop-wire-preserved : goal.loop-wire-preserved
loop-wire-preserved c =
    picked_step (λ (m : Made). port_of m.item) c.args.made.now c.loop-wire.wire-index c.wire-item.result c.loop-wire.ports _ c.in_ok-port_of.field-0 c.loop-wire-test.true c.wire-item.is c.loop-wire.invariant c.in_ok-port_of.ensures c.in_ok-push_some.ensures
