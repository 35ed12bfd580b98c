use Rattle.std.proofs.Common.{ℕ, List, ap, ◌∙◌, ◌≡◌, ◌%◌}
use Rattle.tl_edge.specs.Beats.{part}
use Rattle.tl_edge.specs.Messages.{bytes_of}
use Rattle.tl_edge.proofs.Active.{part_fits, all_or_none}
use Rattle.tl_edge.proofs.response.payload_of.Goals as goal

pub on_bytes-requires : goal.on_bytes-requires
on_bytes-requires c =
    let aligned : c.args.request.now.address % bytes_of c.args.response.now.size ≡ 0 = ap (λ (size : ℕ). c.args.request.now.address % bytes_of size) c.requires.response.size ∙ c.requires.request.aligned in
    part_fits c.args.width c.args.response.now.size c.args.request.now.address c.args.number _ _ c.args.response.now.payload c.requires.width aligned
    (all_or_none _ _ _ c.requires.response.bytes) c.of-lanes.ensures.first (c.part.ensures ∙ ap (λ (bytes : List ℕ). part c.args.width c.args.number bytes) c.as_slice.ensures)
