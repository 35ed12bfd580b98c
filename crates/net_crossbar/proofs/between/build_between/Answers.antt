use Rattle.std.proofs.Common.{length, ap, refl, sym, ◌∙◌}
use Rattle.std.proofs.lemmas.List.{length-map}
use Rattle.tl_edge.specs.Plans.{edge_at}
use Rattle.dip_sets.specs.Assignments.{IsRounded}
use Rattle.net_crossbar.proofs.Planned.{block_ranges, leaf_of_plan, rows_a, rows_d, small, zip_long}
use Rattle.net_crossbar.proofs.between.build_between.Goals as goal

pub assign_ranges-requires-clause-small : goal.assign_ranges-requires-clause-small
assign_ranges-requires-clause-small c = small c.args.plan.now c.args.in_edges.now c.in_ok-counts.counts _ c.as_slice.ensures c.in_ok-counts.ensures c.requires.sound

pub build_crossbar-requires-clause-ins : goal.build_crossbar-requires-clause-ins
build_crossbar-requires-clause-ins c = (rows_a _ c.args.plan.now c.args.in_edges.now c.args.ins.now c.requires.ins, rows_d _ c.args.plan.now c.args.in_edges.now c.args.ins.now c.requires.ins)

pub build_crossbar-requires-clause-outs : goal.build_crossbar-requires-clause-outs
build_crossbar-requires-clause-outs c = (rows_a _ c.args.plan.now c.args.out_edges.now c.args.outs.now c.requires.outs, rows_d _ c.args.plan.now c.args.out_edges.now c.args.outs.now c.requires.outs)

pub build_crossbar-requires-clause-ranges : goal.build_crossbar-requires-clause-ranges
build_crossbar-requires-clause-ranges c = block_ranges _ c.in_ok-counts.counts c.in_ok-ranges.ranges _ c.as_slice-2.ensures c.in_ok-ranges.ensures.rounded c.in_ok-ranges.ensures.aligned

pub build_crossbar-requires-clause-long : goal.build_crossbar-requires-clause-long
build_crossbar-requires-clause-long c =
    ap length c.as_slice-2.ensures ∙ sym (zip_long IsRounded _ _ c.in_ok-ranges.ensures.rounded) ∙ ap length (c.as_slice.ensures ∙ c.in_ok-counts.ensures)
    ∙ length-map c.args.in_edges.now (λ edge. (edge_at c.args.plan.now edge).ids) ∙ sym c.requires.ins.long

pub returns-clause-leaf : goal.returns-clause-leaf
returns-clause-leaf c =
    leaf_of_plan _ c.args.plan.now c.args.in_edges.now c.args.out_edges.now _ c.in_ok-ranges.ranges _ _ c.args.ins.now c.args.outs.now
    c.goes_round-round.ensures (c.as_slice.ensures ∙ c.in_ok-counts.ensures) c.in_ok-ranges.ensures.room c.requires.ins c.requires.outs
    _ c.in_ok-wires.wires _ _ c.as_slice-2.ensures c.requires.some.0 c.in_ok-ranges.ensures.ranges c.width_at-bytes.ensures refl c.in_ok-wires.ensures.leaf
