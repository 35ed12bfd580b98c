use Rattle.std.proofs.Common.{◌≡◌, ◌∙◌, map}
use Rattle.tl_rules.specs.Crossbars.{id_count}
use Rattle.dip_sets.proofs.Assigned.{if_ok_same}
use Rattle.tl_rules.proofs.Crossing.{counts_small, input_length, input_low, usable_parts}
use Rattle.tl_rules.proofs.xbar.input_ranges.Goals as goal

pub assign_ranges-requires-clause-small : goal.assign_ranges-requires-clause-small
assign_ranges-requires-clause-small c =
    let counts : c.as_slice.result.now ≡ map id_count c.args.ins.now = c.as_slice.ensures ∙ c.in_ok-counts.ensures in
    rw counts (λ k d within. counts_small c.args.ins.now k d (usable_parts c.args.ins.now c.requires).0 within)

pub returns-clause-long : goal.returns-clause-long
returns-clause-long c =
    let counts : c.as_slice.result.now ≡ map id_count c.args.ins.now = c.as_slice.ensures ∙ c.in_ok-counts.ensures in
    if_ok_same _ _ _ (rw counts at c.assign_ranges.ensures.ranges) (input_length c.args.ins.now)

pub returns-clause-low : goal.returns-clause-low
returns-clause-low c =
    let counts : c.as_slice.result.now ≡ map id_count c.args.ins.now = c.as_slice.ensures ∙ c.in_ok-counts.ensures in
    let usable = usable_parts c.args.ins.now c.requires in
    if_ok_same _ _ _ (rw counts at c.assign_ranges.ensures.ranges) (input_low c.args.ins.now usable.0 usable.1)
