use Rattle.std.proofs.Common.{sym}
use Rattle.flow_core.specs.Built.{IsSmallD}
use Rattle.flow_core.proofs.Sizes.{queued, kept_is, kept_width}
use Rattle.flow_core.proofs.ways.passing_up.Goals as goal

pub leaf_up-requires-clause-size : goal.leaf_up-requires-clause-size
leaf_up-requires-clause-size c =
    queued IsSmallD c.args.queues.now c.in_ok-from.from (c.in_ok-beat.beat, c.in_ok-beat.tag) c.requires.small (sym c.in_ok-beat.ensures)

pub leaf_up-requires-clause-width : goal.leaf_up-requires-clause-width
leaf_up-requires-clause-width c =
    kept_width c.args.plan.now c.requires.built c.args.fixed.now c.requires.fixed c.args.leaf c.in_ok-at.at.now c.in_ok-kept.kept.now
    (sym c.in_ok-at.ensures.value) (sym c.in_ok-kept.ensures.value)

pub leaf_up-requires-clause-fixed : goal.leaf_up-requires-clause-fixed
leaf_up-requires-clause-fixed c =
    kept_is c.args.plan.now c.requires.built c.args.fixed.now c.requires.fixed c.args.leaf c.in_ok-at.at.now c.in_ok-kept.kept.now
    (sym c.in_ok-at.ensures.value) (sym c.in_ok-kept.ensures.value)
