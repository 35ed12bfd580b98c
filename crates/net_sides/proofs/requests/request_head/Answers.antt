use Rattle.std.proofs.Common.{refl, ap, arith, ◌∙◌}
use Rattle.std.specs.Prelude.{nat_lt}
use Rattle.tl_edge.specs.Wires.{a_fields}
use Rattle.net_build.proofs.OpenedLists.{later_same}
use Rattle.net_build.proofs.Steps.{bit_adds}
use Rattle.net_sides.proofs.Rows.{asks_data, row_value, row_width, row_wire}
use Rattle.net_sides.proofs.requests.request_head.Goals as goal

pub asks_with_data-requires : goal.asks_with_data-requires
asks_with_data-requires c =
    (row_wire _ _ c.args.above.now _ 0 _ (later_same _) c.requires.can.open_above c.as_slice-row.ensures (omega (arith, c.requires.can.long)), row_width c.args.above.now.head _ 0 3 _ c.as_slice-row.ensures (c.requires.can.op _))

pub returns-clause-wires : goal.returns-clause-wires
returns-clause-wires c =
    let g = c.in_ok-loaded.ensures.adds in
    record {
      valid = bit_adds _ _ c.args.above.now.valid g c.requires.can.open_above.valid;
      room = bit_adds _ _ c.args.below.now.ready g c.requires.can.open_below.ready;
      loaded = c.in_ok-loaded.ensures.bit;
      size = row_wire _ _ c.args.above.now _ 2 _ g.later c.requires.can.open_above c.as_slice-row.ensures (omega (arith, c.requires.can.long));
      address = row_wire _ _ c.args.above.now _ 4 _ g.later c.requires.can.open_above c.as_slice-row.ensures (omega (arith, c.requires.can.long));
    }

pub returns-clause-head : goal.returns-clause-head
returns-clause-head c = record {
  valid = refl;
  room = refl;
  loaded = λ v beat s e.
      c.in_ok-loaded.ensures.tells.at v s
      ∙ ap (λ n. nat_lt n 4) (row_value v c.args.above.now.head _ 0 (a_fields beat) _ c.as_slice-row.ensures e (omega arith))
      ∙ asks_data beat.op;
  size = λ v beat e. row_value v c.args.above.now.head _ 2 (a_fields beat) _ c.as_slice-row.ensures e (omega arith);
  address = λ v beat e. row_value v c.args.above.now.head _ 4 (a_fields beat) _ c.as_slice-row.ensures e (omega arith);
}
