use Rattle.std.proofs.Common.{arith, subst, List}
use Rattle.net_cells.proofs.Cycles.{many}
use Rattle.sim_engine.specs.declared.steps.Kind.{Kind}
use Rattle.sim_engine.specs.Columns.{AreRuns, step_of}
use Rattle.sim_engine.proofs.Placed.{order_long}
use Rattle.sim_engine.proofs.Opening.{opening, room_in, shown_placed, nexts_placed, front_fits, engine_made, engine_opened}
use Rattle.sim_engine.proofs.engine.engine_of.Goals as goal
use Rattle.std.proofs.Common.{length}

pub positions_of-requires-clause-few : goal.positions_of-requires-clause-few
positions_of-requires-clause-few c = omega (arith, order_long c.args.netlist c.args.order.now c.requires.order, many c.args.netlist, c.in_ok-nets.ensures.few)

pub steps_of-requires-clause-room : goal.steps_of-requires-clause-room
steps_of-requires-clause-room c =
    room_in c.args.netlist c.args.order.now c.in_ok-positions.positions.items c.as_slice.result.now c.requires.order c.in_ok-positions.ensures c.as_slice.ensures.value c.first_cell-first.result c.first_cell-first.ensures
    c.in_ok-nets.ensures.few

pub settled-requires : goal.settled-requires
settled-requires c =
    let p =
    opening c.args.netlist c.requires.well c.args.order.now c.in_ok-positions.positions.items c.as_slice.result.now c.in_ok-steps.steps.items c.as_slice-2.result.now c.split_at.result.0.now c.split_at.result.1.now
    c.settled_count-count.result c.first_cell-first.result c.in_ok-nets.field-0 c.requires.order c.in_ok-positions.ensures c.as_slice.ensures.value c.in_ok-steps.ensures c.as_slice-2.ensures.value c.split_at.ensures.front
    c.split_at.ensures.back c.settled_count-count.ensures.within c.settled_count-count.ensures.settled c.first_cell-first.ensures c.in_ok-nets.ensures.nets in
    front_fits c.args.netlist c.args.order.now c.in_ok-positions.positions.items c.in_ok-steps.steps.items c.split_at.result.0.now c.split_at.result.1.now c.settled_count-count.result c.first_cell-first.result c.in_ok-nets.field-0 p

pub shown_by-requires : goal.shown_by-requires
shown_by-requires c =
    room_in c.args.netlist c.args.order.now c.in_ok-positions.positions.items c.as_slice-5.result.now c.requires.order c.in_ok-positions.ensures c.as_slice-5.ensures.value c.first_cell-first.result c.first_cell-first.ensures
    c.in_ok-nets.ensures.few

pub nexts_of-requires : goal.nexts_of-requires
nexts_of-requires c =
    room_in c.args.netlist c.args.order.now c.in_ok-positions.positions.items c.as_slice-7.result.now c.requires.order c.in_ok-positions.ensures c.as_slice-7.ensures.value c.first_cell-first.result c.first_cell-first.ensures
    c.in_ok-nets.ensures.few

pub invariant_of-result : goal.invariant_of-result
invariant_of-result c =
    let p =
    opening c.args.netlist c.requires.well c.args.order.now c.in_ok-positions.positions.items c.as_slice.result.now c.in_ok-steps.steps.items c.as_slice-2.result.now c.split_at.result.0.now c.split_at.result.1.now
    c.settled_count-count.result c.first_cell-first.result c.in_ok-nets.field-0 c.requires.order c.in_ok-positions.ensures c.as_slice.ensures.value c.in_ok-steps.ensures c.as_slice-2.ensures.value c.split_at.ensures.front
    c.split_at.ensures.back c.settled_count-count.ensures.within c.settled_count-count.ensures.settled c.first_cell-first.ensures c.in_ok-nets.ensures.nets in
    engine_made c.args.netlist c.args.order.now c.in_ok-positions.positions.items c.in_ok-steps.steps.items c.split_at.result.0.now c.split_at.result.1.now c.settled_count-count.result c.first_cell-first.result c.in_ok-nets.field-0
    p c.in_ok-columns.columns c.in_ok-runs.runs.items c.in_ok-shown_by.field-0.items c.in_ok-nexts_of.field-0.items c.in_ok-values.values.items c.in_ok-zeros.field-0.items c.len.result c.in_ok-columns.ensures
    (subst (λ (kinds : List Kind). AreRuns kinds 0 c.in_ok-runs.runs.items) c.as_slice-3.ensures.value c.in_ok-runs.ensures)
    (shown_placed c.args.netlist c.first_cell-first.result c.as_slice-5.result.now c.in_ok-positions.positions.items c.as_slice-4.result.now c.in_ok-shown_by.field-0.items c.as_slice-5.ensures.value c.as_slice-4.ensures
    c.in_ok-shown_by.ensures)
    (nexts_placed c.args.netlist c.first_cell-first.result c.as_slice-7.result.now c.in_ok-positions.positions.items c.as_slice-6.result.now c.in_ok-nexts_of.field-0.items c.as_slice-7.ensures.value c.as_slice-6.ensures
    c.in_ok-nexts_of.ensures)
    c.in_ok-values.ensures c.in_ok-zeros.ensures c.len.ensures

pub returns : goal.returns
returns c =
    engine_opened c.args.netlist (step_of c.split_at.result.0.now) c.first_cell-first.result (length c.split_at.result.0.now) c.in_ok-nets.field-0 c.in_ok-values.values.items c.first_cell-first.ensures c.in_ok-nets.ensures.nets
    c.in_ok-values.ensures
