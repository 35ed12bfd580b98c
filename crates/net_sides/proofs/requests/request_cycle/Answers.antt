use Rattle.std.proofs.Common.{ℕ, ◌*◌, ◌-◌, ◌^◌, ap, arith, refl, subst, sym, ◌∙◌}
use Rattle.net_cells.specs.Rules.{IsWidth}
use Rattle.net_build.proofs.OpenedLists.{later_same, widths_later}
use Rattle.net_build.proofs.Steps.{adds_adds, bit_adds, wire_adds}
use Rattle.net_queue.proofs.Opening.{open_adds}
use Rattle.net_turns.proofs.Turning.{head_wires_later, turn_later, turn_wires_later, turned_later}
use Rattle.net_turns.specs.Turns.{lanes_in, lanes_out}
use Rattle.net_sides.proofs.Parts.{keeps_row_later, put_into_later, request_head_later, request_lanes_later}
use Rattle.net_sides.proofs.Rows.{mask_out_width, mask_widths, payload_widths, row_width, row_wire, turned_row}
use Rattle.net_sides.proofs.requests.request_cycle.Goals as goal

pub turn-requires-clause-done : goal.turn-requires-clause-done
turn-requires-clause-done c = (wire_adds _ _ c.args.done c.in_ok-head.ensures.adds c.requires.done.0, c.requires.done.1)

pub turn_lanes-requires-clause-wire : goal.turn_lanes-requires-clause-wire
turn_lanes-requires-clause-wire c =
    let g = adds_adds _ _ _ c.in_ok-head.ensures.adds c.in_ok-turned.ensures.adds in (
      row_wire _ _ c.args.above.now _ 5 _ g.later c.requires.can.open_above c.as_slice-row.ensures (omega (arith, c.requires.can.long)),
      row_width c.args.above.now.head _ 5 _ _ c.as_slice-row.ensures (c.requires.can.mask _) ∙ ap (λ (n : ℕ). lanes_in c.args.widens n c.args.buses) (sym c.bytes_of_bus-narrow.ensures.value),
    )

pub turn_lanes-requires-clause-width : goal.turn_lanes-requires-clause-width
turn_lanes-requires-clause-width c =
    subst (λ (n : ℕ). IsWidth n × IsWidth (n * 2 ^ (c.args.buses.wide - c.args.buses.narrow))) (sym c.bytes_of_bus-narrow.ensures.value) (mask_widths c.args.buses c.requires.can.two)

pub turn_lanes-requires-2-clause-turn : goal.turn_lanes-requires-2-clause-turn
turn_lanes-requires-2-clause-turn c = turn_wires_later _ _ c.args.buses c.in_ok-turned.turned c.in_ok-mask.ensures.adds.later c.in_ok-turned.ensures.wires

pub turn_lanes-requires-2-clause-wire : goal.turn_lanes-requires-2-clause-wire
turn_lanes-requires-2-clause-wire c =
    let g = adds_adds _ _ _ (adds_adds _ _ _ c.in_ok-head.ensures.adds c.in_ok-turned.ensures.adds) c.in_ok-mask.ensures.adds in (
      row_wire _ _ c.args.above.now _ 6 _ g.later c.requires.can.open_above c.as_slice-row.ensures (omega (arith, c.requires.can.long)),
      row_width c.args.above.now.head _ 6 _ _ c.as_slice-row.ensures (c.requires.can.payload _) ∙ ap (λ (n : ℕ). lanes_in c.args.widens (8 * n) c.args.buses) (sym c.bytes_of_bus-narrow.ensures.value),
    )

pub turn_lanes-requires-2-clause-width : goal.turn_lanes-requires-2-clause-width
turn_lanes-requires-2-clause-width c =
    subst (λ (n : ℕ). IsWidth (8 * n) × IsWidth (8 * n * 2 ^ (c.args.buses.wide - c.args.buses.narrow))) (sym c.bytes_of_bus-narrow.ensures.value) (payload_widths c.args.buses c.requires.can.two)

pub request_lanes-requires-clause-head : goal.request_lanes-requires-clause-head
request_lanes-requires-clause-head c =
    let g = adds_adds _ _ _ (adds_adds _ _ _ c.in_ok-turned.ensures.adds c.in_ok-mask.ensures.adds) c.in_ok-payload.ensures.adds in
    head_wires_later _ _ c.in_ok-head.head g.later c.in_ok-head.ensures.wires

pub request_lanes-requires-clause-mask : goal.request_lanes-requires-clause-mask
request_lanes-requires-clause-mask c = (
  wire_adds _ _ c.in_ok-mask.mask.lanes c.in_ok-payload.ensures.adds c.in_ok-mask.ensures.wire.0,
  c.in_ok-mask.ensures.wire.1 ∙ ap (λ (n : ℕ). lanes_out c.args.widens n c.args.buses) c.bytes_of_bus-narrow.ensures.value ∙ mask_out_width c.args.buses c.args.widens c.requires.can.two ∙ sym c.bytes_out-width.ensures.value,
)

pub put_request-requires-clause-valid : goal.put_request-requires-clause-valid
put_request-requires-clause-valid c =
    let g = adds_adds _ _ _ (adds_adds _ _ _ c.in_ok-mask.ensures.adds c.in_ok-payload.ensures.adds) c.in_ok-lanes.ensures.adds in
    bit_adds _ _ c.in_ok-turned.turned.flow.put g c.in_ok-turned.ensures.wires.put

pub put_request-requires-clause-head : goal.put_request-requires-clause-head
put_request-requires-clause-head c =
    let g = adds_adds _ _ _ c.in_ok-head.ensures.adds (adds_adds _ _ _ c.in_ok-turned.ensures.adds (adds_adds _ _ _ c.in_ok-mask.ensures.adds (adds_adds _ _ _ c.in_ok-payload.ensures.adds c.in_ok-lanes.ensures.adds))) in
    widths_later _ _ _ c.args.above.now.head g.later c.requires.can.open_above.alike.one

pub put_request-requires-clause-open : goal.put_request-requires-clause-open
put_request-requires-clause-open c =
    let g = adds_adds _ _ _ c.in_ok-head.ensures.adds (adds_adds _ _ _ c.in_ok-turned.ensures.adds (adds_adds _ _ _ c.in_ok-mask.ensures.adds (adds_adds _ _ _ c.in_ok-payload.ensures.adds c.in_ok-lanes.ensures.adds))) in
    open_adds _ _ c.args.below.now g c.requires.can.open_below

pub begin-requires-clause-bits : goal.begin-requires-clause-bits
begin-requires-clause-bits c =
    let g = adds_adds _ _ _ c.in_ok-mask.ensures.adds (adds_adds _ _ _ c.in_ok-payload.ensures.adds (adds_adds _ _ _ c.in_ok-lanes.ensures.adds c.in_ok-put.ensures.adds)) in
    (bit_adds _ _ c.in_ok-turned.turned.flow.made g c.in_ok-turned.ensures.wires.made, bit_adds _ _ c.in_ok-head.head.loaded (adds_adds _ _ _ c.in_ok-turned.ensures.adds g) c.in_ok-head.ensures.wires.loaded)

pub begin-requires-clause-done : goal.begin-requires-clause-done
begin-requires-clause-done c =
    let g = adds_adds _ _ _ c.in_ok-mask.ensures.adds (adds_adds _ _ _ c.in_ok-payload.ensures.adds (adds_adds _ _ _ c.in_ok-lanes.ensures.adds c.in_ok-put.ensures.adds)) in
    (wire_adds _ _ c.args.done (adds_adds _ _ _ c.in_ok-head.ensures.adds (adds_adds _ _ _ c.in_ok-turned.ensures.adds g)) c.requires.done.0, c.requires.done.1)

pub returns-clause-adds : goal.returns-clause-adds
returns-clause-adds c =
    adds_adds _ _ _ c.in_ok-head.ensures.adds (adds_adds _ _ _ c.in_ok-turned.ensures.adds (adds_adds _ _ _ c.in_ok-mask.ensures.adds (adds_adds _ _ _ c.in_ok-payload.ensures.adds
    (adds_adds _ _ _ c.in_ok-lanes.ensures.adds (adds_adds _ _ _ c.in_ok-put.ensures.adds c.in_ok-begins.ensures.adds)))))

pub returns-clause-wires : goal.returns-clause-wires
returns-clause-wires c =
    let g6 = c.in_ok-begins.ensures.adds in
    let g2 = adds_adds _ _ _ c.in_ok-mask.ensures.adds (adds_adds _ _ _ c.in_ok-payload.ensures.adds (adds_adds _ _ _ c.in_ok-lanes.ensures.adds (adds_adds _ _ _ c.in_ok-put.ensures.adds g6))) in
    record {
      put = put_into_later _ _ c.args.below.now c.in_ok-put.put g6.later c.in_ok-put.ensures.into;
      begins = c.in_ok-begins.ensures.bit;
      take = bit_adds _ _ c.in_ok-turned.turned.flow.take g2 c.in_ok-turned.ensures.wires.take;
      next = wire_adds _ _ c.in_ok-turned.turned.next g2 c.in_ok-turned.ensures.wires.next;
      next_wide = c.in_ok-turned.ensures.wires.next_wide;
    }

pub returns-clause-cycle : goal.returns-clause-cycle
returns-clause-cycle c =
    let g6 = c.in_ok-begins.ensures.adds in
    let g5 = adds_adds _ _ _ c.in_ok-put.ensures.adds g6 in
    let g4 = adds_adds _ _ _ c.in_ok-lanes.ensures.adds g5 in
    let g3 = adds_adds _ _ _ c.in_ok-payload.ensures.adds g4 in
    let g2 = adds_adds _ _ _ c.in_ok-mask.ensures.adds g3 in
    let g1 = adds_adds _ _ _ c.in_ok-turned.ensures.adds g2 in
    let t = c.in_ok-turned.turned in
    record {
      head = request_head_later _ _ c.args.above.now c.args.below.now c.in_ok-head.head g1.later c.in_ok-head.ensures.head;
      turn = turn_later _ _ c.args.buses c.args.widens c.in_ok-head.head c.args.done t g2.later c.in_ok-turned.ensures.turn;
      mask = turned_row _ c.args.widens _ (2 ^ c.args.buses.narrow) t c.args.above.now.head _ 5 _ c.in_ok-mask.mask c.as_slice-row.ensures c.bytes_of_bus-narrow.ensures.value (omega (arith, c.requires.can.long))
          (turned_later _ _ c.args.widens _ t _ c.in_ok-mask.mask g3.later c.in_ok-mask.ensures.turned);
      payload = turned_row _ c.args.widens _ (8 * 2 ^ c.args.buses.narrow) t c.args.above.now.head _ 6 _ c.in_ok-payload.payload c.as_slice-row.ensures (ap (λ (n : ℕ). 8 * n) c.bytes_of_bus-narrow.ensures.value) (omega (arith, c.requires.can.long))
          (turned_later _ _ c.args.widens _ t _ c.in_ok-payload.payload g4.later c.in_ok-payload.ensures.turned);
      lanes = request_lanes_later _ _ _ c.in_ok-head.head c.in_ok-mask.mask.lanes c.in_ok-payload.payload.lanes c.in_ok-lanes.lanes g5.later (rw (sym c.bytes_out-width.ensures.value) c.in_ok-lanes.ensures.lanes);
      valid = c.in_ok-put.ensures.valid;
      keeps = keeps_row_later _ _ _ _ c.in_ok-put.put.items g6.later c.in_ok-put.ensures.keeps;
      begins = c.in_ok-begins.ensures.tells;
    }
