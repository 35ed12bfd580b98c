use Rattle.std.proofs.Common.{sym}
use Rattle.flow_core.specs.Built.{IsSmallA}
use Rattle.flow_core.proofs.Sizes.{queued, kept_width, kept_room}
use Rattle.flow_core.proofs.ways.passing_down.Goals as goal

pub leaf_down-requires-clause-size : goal.leaf_down-requires-clause-size
leaf_down-requires-clause-size c =
    (queued (IsSmallA c.args.plan.now) c.args.queues.now c.in_ok-from.from (c.in_ok-beat.beat, c.in_ok-beat.tag) c.requires.small (sym c.in_ok-beat.ensures)).1

pub leaf_down-requires-clause-width : goal.leaf_down-requires-clause-width
leaf_down-requires-clause-width c =
    kept_width c.args.plan.now c.requires.built c.args.fixed.now c.requires.fixed c.args.leaf c.in_ok-at.at.now c.in_ok-kept.kept.now
    (sym c.in_ok-at.ensures.value) (sym c.in_ok-kept.ensures.value)

pub leaf_down-requires-clause-room : goal.leaf_down-requires-clause-room
leaf_down-requires-clause-room c range x r =
    kept_room c.args.plan.now c.requires.built c.args.fixed.now c.requires.fixed c.args.leaf c.in_ok-at.at.now c.in_ok-kept.kept.now
    (sym c.in_ok-at.ensures.value) (sym c.in_ok-kept.ensures.value) c.args.way.input c.args.way.output c.in_ok-from.from c.in_ok-to.to
    c.in_ok-beat.beat.source range x r (sym c.in_ok-from.ensures) (sym c.in_ok-to.ensures)
    (queued (IsSmallA c.args.plan.now) c.args.queues.now c.in_ok-from.from (c.in_ok-beat.beat, c.in_ok-beat.tag) c.requires.small (sym c.in_ok-beat.ensures)).0
