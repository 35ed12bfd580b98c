use Rattle.std.specs.Prelude.{slice_index}
use Rattle.net_build.specs.Numbering.{cell_of}
use Rattle.net_build.proofs.Picked.{picked_step}
use Rattle.net_build.proofs.finish.cells_of.Goals as goal

pub loop-wire-preserved : goal.loop-wire-preserved
loop-wire-preserved c =
    picked_step (cell_of (slice_index c.args.nets.now)) c.args.made.now c.loop-wire.wire-index c.wire-item.result c.loop-wire.cells _ c.cell_of.result c.loop-wire-test.true c.wire-item.is c.loop-wire.invariant c.cell_of.ensures c.in_ok-push_some.ensures
