use Rattle.std.proofs.Common.{◌∙◌, ap, sym, ◌-◌, ◌++◌, ◌∷◌, []}
use Rattle.tl_edge.specs.Beats.{data_beats}
use Rattle.net_slots.proofs.Ranges.{lengths_more}
use Rattle.net_slots.proofs.lengths.followers.Goals as goal

pub loop-size-preserved : goal.loop-size-preserved
loop-size-preserved c =
    lengths_more (λ size. data_beats size c.args.bus - 1) c.loop-size.size c.loop-size.out _ _ c.loop-size.invariant
    (c.from.ensures ∙ ap (λ n. n - 1) c.beats-all.ensures) c.in_ok-push.ensures.ok
