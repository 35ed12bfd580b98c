use Rattle.std.proofs.Common.{List, Bool, ap, sym, ◌∙◌}
use Rattle.tl_edge.specs.Beats.{part}
use Rattle.tl_edge.proofs.Active.{part_fits, lanes_fit_word, mask_without_flags, all_or_none}
use Rattle.tl_edge.proofs.request.mask_of.Goals as goal

pub on_bits-requires : goal.on_bits-requires
on_bits-requires c =
    part_fits c.args.width c.args.request.now.size c.args.request.now.address c.args.number _ _ c.args.request.now.mask c.requires.width c.requires.request.aligned
    (all_or_none _ _ _ c.requires.request.flags) c.requires.first (c.part.ensures ∙ ap (λ (flags : List Bool). part c.args.width c.args.number flags) c.as_slice.ensures)

pub mask-requires : goal.mask-requires
mask-requires c = lanes_fit_word c.args.width c.args.request.now.size c.args.request.now.address _ _ c.requires.width c.requires.request.aligned c.requires.first c.requires.count

pub returns-else-has_flags : goal.returns-else-has_flags
returns-else-has_flags c =
    mask_without_flags c.args.width c.args.number c.args.lanes.first c.args.lanes.count _ c.args.request.now c.requires.width c.requires.number
    (sym c.has_flags.ensures ∙ c.if-has_flags.false) c.requires.count c.mask.ensures
