use Rattle.std.proofs.Common.{ℕ, ◌*◌, ◌-◌, ◌^◌, ap, arith, refl, subst, sym, ◌∙◌, if◌then◌else◌}
use Rattle.net_cells.specs.Rules.{IsWidth}
use Rattle.net_build.specs.Values.{high}
use Rattle.net_build.proofs.OpenedLists.{widths_later}
use Rattle.net_build.proofs.Steps.{adds_adds, bit_adds, wire_adds}
use Rattle.net_queue.proofs.Opening.{open_adds}
use Rattle.net_turns.proofs.Turning.{turn_later, turn_wires_later, turned_later}
use Rattle.net_turns.specs.Turns.{lanes_in}
use Rattle.net_sides.proofs.Parts.{keeps_row_later, put_into_later, response_head_later}
use Rattle.net_sides.proofs.Rows.{payload_widths, row_width, row_wire, turned_row}
use Rattle.net_sides.proofs.responses.response_cycle.Goals as goal

pub turn-requires-clause-done : goal.turn-requires-clause-done
turn-requires-clause-done c = (wire_adds _ _ c.args.done c.in_ok-head.ensures.adds c.requires.done.0, c.requires.done.1)

pub turn_lanes-requires-clause-wire : goal.turn_lanes-requires-clause-wire
turn_lanes-requires-clause-wire c =
    let g = adds_adds _ _ _ c.in_ok-head.ensures.adds c.in_ok-turned.ensures.adds in (
      row_wire _ _ c.args.below.now _ 4 _ g.later c.requires.can.open_below c.as_slice-row.ensures (omega (arith, c.requires.can.long)),
      row_width c.args.below.now.head _ 4 _ _ c.as_slice-row.ensures (c.requires.can.payload _) ∙ ap (λ (n : ℕ). lanes_in c.args.widens (8 * n) c.args.buses) (sym c.bytes_of_bus-narrow.ensures.value),
    )

pub turn_lanes-requires-clause-width : goal.turn_lanes-requires-clause-width
turn_lanes-requires-clause-width c =
    subst (λ (n : ℕ). IsWidth (8 * n) × IsWidth (8 * n * 2 ^ (c.args.buses.wide - c.args.buses.narrow))) (sym c.bytes_of_bus-narrow.ensures.value) (payload_widths c.args.buses c.requires.can.two)

pub data_of-requires-clause-loaded : goal.data_of-requires-clause-loaded
data_of-requires-clause-loaded c = bit_adds _ _ c.in_ok-head.head.loaded (adds_adds _ _ _ c.in_ok-turned.ensures.adds c.in_ok-payload.ensures.adds) c.in_ok-head.ensures.wires.loaded

pub data_of-requires-clause-wire : goal.data_of-requires-clause-wire
data_of-requires-clause-wire c = c.in_ok-payload.ensures.wire.0

pub put_response-requires-clause-valid : goal.put_response-requires-clause-valid
put_response-requires-clause-valid c = bit_adds _ _ c.in_ok-turned.turned.flow.put (adds_adds _ _ _ c.in_ok-payload.ensures.adds c.in_ok-lanes.ensures.adds) c.in_ok-turned.ensures.wires.put

pub put_response-requires-clause-head : goal.put_response-requires-clause-head
put_response-requires-clause-head c =
    let g = adds_adds _ _ _ c.in_ok-head.ensures.adds (adds_adds _ _ _ c.in_ok-turned.ensures.adds (adds_adds _ _ _ c.in_ok-payload.ensures.adds c.in_ok-lanes.ensures.adds)) in
    widths_later _ _ _ c.args.below.now.head g.later c.requires.can.open_below.alike.one

pub put_response-requires-clause-open : goal.put_response-requires-clause-open
put_response-requires-clause-open c =
    let g = adds_adds _ _ _ c.in_ok-head.ensures.adds (adds_adds _ _ _ c.in_ok-turned.ensures.adds (adds_adds _ _ _ c.in_ok-payload.ensures.adds c.in_ok-lanes.ensures.adds)) in
    open_adds _ _ c.args.above.now g c.requires.can.open_above

pub returns-clause-adds : goal.returns-clause-adds
returns-clause-adds c =
    adds_adds _ _ _ c.in_ok-head.ensures.adds (adds_adds _ _ _ c.in_ok-turned.ensures.adds (adds_adds _ _ _ c.in_ok-payload.ensures.adds (adds_adds _ _ _ c.in_ok-lanes.ensures.adds c.in_ok-put.ensures.adds)))

pub returns-clause-wires : goal.returns-clause-wires
returns-clause-wires c =
    let g2 = adds_adds _ _ _ c.in_ok-payload.ensures.adds (adds_adds _ _ _ c.in_ok-lanes.ensures.adds c.in_ok-put.ensures.adds) in
    record {
      put = c.in_ok-put.ensures.into;
      take = bit_adds _ _ c.in_ok-turned.turned.flow.take g2 c.in_ok-turned.ensures.wires.take;
      next = wire_adds _ _ c.in_ok-turned.turned.next g2 c.in_ok-turned.ensures.wires.next;
      next_wide = c.in_ok-turned.ensures.wires.next_wide;
    }

pub returns-clause-cycle : goal.returns-clause-cycle
returns-clause-cycle c =
    let g4 = c.in_ok-put.ensures.adds in
    let g3 = adds_adds _ _ _ c.in_ok-lanes.ensures.adds g4 in
    let g2 = adds_adds _ _ _ c.in_ok-payload.ensures.adds g3 in
    let g1 = adds_adds _ _ _ c.in_ok-turned.ensures.adds g2 in
    let t = c.in_ok-turned.turned in
    record {
      head = response_head_later _ _ c.args.kept c.args.below.now c.args.above.now c.in_ok-head.head g1.later c.in_ok-head.ensures.head;
      turn = turn_later _ _ c.args.buses c.args.widens c.in_ok-head.head c.args.done t g2.later c.in_ok-turned.ensures.turn;
      payload = turned_row _ c.args.widens _ (8 * 2 ^ c.args.buses.narrow) t c.args.below.now.head _ 4 _ c.in_ok-payload.payload c.as_slice-row.ensures (ap (λ (n : ℕ). 8 * n) c.bytes_of_bus-narrow.ensures.value) (omega (arith, c.requires.can.long))
          (turned_later _ _ c.args.widens _ t _ c.in_ok-payload.payload g3.later c.in_ok-payload.ensures.turned);
      data_out = λ v s. c.in_ok-lanes.ensures.value.at v (g4.later.back v s);
      valid = c.in_ok-put.ensures.valid;
      keeps = c.in_ok-put.ensures.keeps;
    }
