use Rattle.std.proofs.Common.{ℕ, ◌≤◌, ◌^◌, List, length, get_or, arith, sym, subst}
use Rattle.flow_core.specs.Turning.{Widths}
use Rattle.net_build.specs.declared.types.Wire.{Wire}
use Rattle.net_build.proofs.OpenedLists.{later_same}
use Rattle.net_build.proofs.Steps.{adds_adds, bit_adds, wire_adds}
use Rattle.net_table.specs.Tables.{AreEntries}
use Rattle.net_table.proofs.Indexed.{entries_later}
use Rattle.net_sides.specs.Sides.{AreResponsesTurned}
use Rattle.net_sides.proofs.Parts.{can_down_adds, can_up_adds, put_into_later}
use Rattle.net_sides.proofs.Rows.{row_wire}
use Rattle.net_width.proofs.Around.{nexts_are, other_way, recalled_is, requests_later, responses_later}
use Rattle.net_width.proofs.between.around.Goals as goal

pub kept_at-requires-clause-id : goal.kept_at-requires-clause-id
kept_at-requires-clause-id c = row_wire _ _ c.args.below.now.d _ 2 _ (later_same _) c.requires.can.up.open_below c.as_slice-back.ensures (omega (arith, c.requires.can.up.long))

pub kept_at-requires-clause-small : goal.kept_at-requires-clause-small
kept_at-requires-clause-small c = subst (λ (ws : List Wire). length c.args.entries.now ≤ 2 ^ (get_or ws 2 _).width) (sym c.as_slice-back.ensures) (c.requires.can.few_up _)

pub turn_requests-requires : goal.turn_requests-requires
turn_requests-requires c = record { can = can_down_adds _ _ c.args.buses c.args.widens c.args.above.now.a c.args.below.now.a c.in_ok-kept.ensures.adds c.requires.can.down }

pub turn_responses-requires-clause-can : goal.turn_responses-requires-clause-can
turn_responses-requires-clause-can c = can_up_adds _ _ c.args.buses _ c.args.below.now.d c.args.above.now.d (adds_adds _ _ _ c.in_ok-kept.ensures.adds c.in_ok-requests.ensures.adds) c.requires.can.up

pub turn_responses-requires-clause-kept : goal.turn_responses-requires-clause-kept
turn_responses-requires-clause-kept c =
    (bit_adds _ _ c.in_ok-kept.kept.known c.in_ok-requests.ensures.adds c.in_ok-kept.ensures.known.0, wire_adds _ _ c.in_ok-kept.kept.address c.in_ok-requests.ensures.adds c.in_ok-kept.ensures.address.0)

pub keep-requires : goal.keep-requires
keep-requires c =
    let g = adds_adds _ _ _ c.in_ok-kept.ensures.adds (adds_adds _ _ _ c.in_ok-requests.ensures.adds c.in_ok-responses.ensures.adds) in
    row_wire _ _ c.args.above.now.a _ 4 _ g.later c.requires.can.down.open_above c.as_slice-head.ensures (omega (arith, c.requires.can.down.long))

pub write_entry-requires-clause-entries : goal.write_entry-requires-clause-entries
write_entry-requires-clause-entries c =
    let g = adds_adds _ _ _ c.in_ok-kept.ensures.adds (adds_adds _ _ _ c.in_ok-requests.ensures.adds (adds_adds _ _ _ c.in_ok-responses.ensures.adds c.in_ok-entry.ensures.adds)) in
    subst (λ (n : ℕ). AreEntries c.keep.new.builder n c.args.entries.now) (sym c.in_ok-entry.ensures.wire.1) (entries_later _ _ 4 c.args.entries.now g.later c.requires.entries)

pub write_entry-requires-clause-write : goal.write_entry-requires-clause-write
write_entry-requires-clause-write c = bit_adds _ _ c.in_ok-requests.requests.begins (adds_adds _ _ _ c.in_ok-responses.ensures.adds c.in_ok-entry.ensures.adds) c.in_ok-requests.ensures.bits.1

pub write_entry-requires-clause-wires : goal.write_entry-requires-clause-wires
write_entry-requires-clause-wires c =
    let g = adds_adds _ _ _ c.in_ok-kept.ensures.adds (adds_adds _ _ _ c.in_ok-requests.ensures.adds (adds_adds _ _ _ c.in_ok-responses.ensures.adds c.in_ok-entry.ensures.adds)) in
    (row_wire _ _ c.args.above.now.a _ 3 _ g.later c.requires.can.down.open_above c.as_slice-head.ensures (omega (arith, c.requires.can.down.long)), c.in_ok-entry.ensures.wire.0)

pub write_entry-requires-clause-small : goal.write_entry-requires-clause-small
write_entry-requires-clause-small c = subst (λ (ws : List Wire). length c.args.entries.now ≤ 2 ^ (get_or ws 3 _).width) (sym c.as_slice-head.ensures) (c.requires.can.few_down _)

pub returns-clause-adds : goal.returns-clause-adds
returns-clause-adds c =
    adds_adds _ _ _ c.in_ok-kept.ensures.adds (adds_adds _ _ _ c.in_ok-requests.ensures.adds (adds_adds _ _ _ c.in_ok-responses.ensures.adds (adds_adds _ _ _ c.in_ok-entry.ensures.adds c.in_ok-nexts.ensures.adds)))

pub returns-clause-wires : goal.returns-clause-wires
returns-clause-wires c =
    let g3 = adds_adds _ _ _ c.in_ok-entry.ensures.adds c.in_ok-nexts.ensures.adds in
    let g2 = adds_adds _ _ _ c.in_ok-responses.ensures.adds g3 in
    record {
      down = put_into_later _ _ c.args.below.now.a c.in_ok-requests.requests.put g2.later c.in_ok-requests.ensures.into;
      up = put_into_later _ _ c.args.above.now.d c.in_ok-responses.responses.put g3.later c.in_ok-responses.ensures.into;
      take_down = bit_adds _ _ c.in_ok-requests.requests.take g2 c.in_ok-requests.ensures.bits.0;
      take_up = bit_adds _ _ c.in_ok-responses.responses.take g3 c.in_ok-responses.ensures.bit;
    }

pub returns-clause-long : goal.returns-clause-long
returns-clause-long c = c.in_ok-nexts.ensures.long

pub returns-clause-nexts : goal.returns-clause-nexts
returns-clause-nexts c = subst (λ (n : ℕ). AreEntries c.write_entry.new.builder n c.in_ok-nexts.nexts) c.in_ok-entry.ensures.wire.1 c.in_ok-nexts.ensures.entries

pub returns-clause-cycle : goal.returns-clause-cycle
returns-clause-cycle c =
    let g4 = c.in_ok-nexts.ensures.adds in
    let g3 = adds_adds _ _ _ c.in_ok-entry.ensures.adds g4 in
    let g2 = adds_adds _ _ _ c.in_ok-responses.ensures.adds g3 in
    let g1 = adds_adds _ _ _ c.in_ok-requests.ensures.adds g2 in
    record {
      requests = requests_later _ _ _ c.args.above.now.a c.args.below.now.a c.in_ok-requests.requests g2.later c.in_ok-requests.ensures.requests;
      responses = subst (λ (x : Widths). AreResponsesTurned c.write_entry.new.builder x c.in_ok-kept.kept c.args.below.now.d c.args.above.now.d c.in_ok-responses.responses) (other_way c.args.buses c.args.widens)
          (responses_later _ _ _ c.in_ok-kept.kept c.args.below.now.d c.args.above.now.d c.in_ok-responses.responses g3.later c.in_ok-responses.ensures.responses);
      recalled = recalled_is _ _ c.args.below.now c.args.entries.now _ c.in_ok-kept.kept _ g1.later c.as_slice-back.ensures (omega (arith, c.requires.can.up.long)) c.in_ok-kept.ensures.known.1 c.in_ok-kept.ensures.address.2;
      nexts = nexts_are _ _ c.args.above.now c.args.entries.now _ c.in_ok-nexts.nexts c.in_ok-requests.requests.begins c.in_ok-entry.entry _ _ g4.later c.as_slice-head.ensures c.requires.can.down.long c.in_ok-entry.ensures.value c.in_ok-nexts.ensures.values;
    }
