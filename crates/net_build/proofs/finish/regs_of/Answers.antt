use Rattle.std.specs.Prelude.{slice_index}
use Rattle.net_build.specs.Numbering.{reg_of}
use Rattle.net_build.proofs.Picked.{picked_step}
use Rattle.net_build.proofs.finish.regs_of.Goals as goal

pub loop-wire-preserved : goal.loop-wire-preserved
loop-wire-preserved c =
    picked_step (reg_of (slice_index c.args.nets.now)) c.args.made.now c.loop-wire.wire-index c.wire-item.result c.loop-wire.regs _ c.reg_of.result c.loop-wire-test.true c.wire-item.is c.loop-wire.invariant c.reg_of.ensures c.in_ok-push_some.ensures
