use Rattle.std.proofs.Common.{ℕ, List, ap, ◌∙◌}
use Rattle.tl_edge.specs.Beats.{part}
use Rattle.tl_edge.proofs.Active.{part_fits, all_or_none}
use Rattle.tl_edge.proofs.request.a_beat.Goals as goal

pub on_bytes-requires : goal.on_bytes-requires
on_bytes-requires c =
    part_fits c.args.width c.args.request.now.size c.args.request.now.address c.args.number _ _ c.args.request.now.payload c.requires.width c.requires.request.aligned
    (all_or_none _ _ _ c.requires.request.bytes) c.of-lanes.ensures.first (c.part.ensures ∙ ap (λ (bytes : List ℕ). part c.args.width c.args.number bytes) c.as_slice.ensures)
