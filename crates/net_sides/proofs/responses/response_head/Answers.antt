use Rattle.std.proofs.Common.{Bool, ◌&&◌, ◌||◌, not, refl, ap, arith, ◌∙◌}
use Rattle.std.specs.Prelude.{◌==◌}
use Rattle.tl_edge.specs.Wires.{d_fields}
use Rattle.net_build.specs.Values.{high}
use Rattle.net_build.proofs.OpenedLists.{later_same}
use Rattle.net_build.proofs.Steps.{adds_adds, bit_adds, wire_adds}
use Rattle.net_sides.proofs.Rows.{answers_data, row_value, row_width, row_wire}
use Rattle.net_sides.proofs.responses.response_head.Goals as goal

pub answers_with_data-requires : goal.answers_with_data-requires
answers_with_data-requires c =
    (row_wire _ _ c.args.below.now _ 0 _ (later_same _) c.requires.can.open_below c.as_slice-row.ensures (omega (arith, c.requires.can.long)), row_width c.args.below.now.head _ 0 3 _ c.as_slice-row.ensures (c.requires.can.op _))

pub uses_up-requires : goal.uses_up-requires
uses_up-requires c = (c.in_ok-loaded.ensures.bit, bit_adds _ _ c.args.kept.known c.in_ok-loaded.ensures.adds c.requires.kept.0)

pub both-requires : goal.both-requires
both-requires c = (bit_adds _ _ c.args.below.now.valid (adds_adds _ _ _ c.in_ok-loaded.ensures.adds c.in_ok-may.ensures.adds) c.requires.can.open_below.valid, c.in_ok-may.ensures.bit)

pub returns-clause-adds : goal.returns-clause-adds
returns-clause-adds c = adds_adds _ _ _ c.in_ok-loaded.ensures.adds (adds_adds _ _ _ c.in_ok-may.ensures.adds c.in_ok-valid.ensures.adds)

pub returns-clause-wires : goal.returns-clause-wires
returns-clause-wires c =
    let g2 = adds_adds _ _ _ c.in_ok-may.ensures.adds c.in_ok-valid.ensures.adds in
    let g1 = adds_adds _ _ _ c.in_ok-loaded.ensures.adds g2 in
    record {
      valid = c.in_ok-valid.ensures.bit;
      room = bit_adds _ _ c.args.above.now.ready g1 c.requires.can.open_above.ready;
      loaded = bit_adds _ _ c.in_ok-loaded.loaded g2 c.in_ok-loaded.ensures.bit;
      size = row_wire _ _ c.args.below.now _ 1 _ g1.later c.requires.can.open_below c.as_slice-row.ensures (omega (arith, c.requires.can.long));
      address = wire_adds _ _ c.args.kept.address g1 c.requires.kept.1;
    }

pub returns-clause-head : goal.returns-clause-head
returns-clause-head c =
    let l3 = c.in_ok-valid.ensures.adds.later in
    let l2 = (adds_adds _ _ _ c.in_ok-may.ensures.adds c.in_ok-valid.ensures.adds).later in
    record {
      valid = λ v s. c.in_ok-valid.ensures.tells.at v s ∙ ap (λ (x : Bool). high v c.args.below.now.valid && x) (c.in_ok-may.ensures.tells.at v (l3.back v s));
      room = refl;
      loaded = λ v beat s e.
          c.in_ok-loaded.ensures.tells.at v (l2.back v s)
          ∙ ap (λ n. n == 1) (row_value v c.args.below.now.head _ 0 (d_fields beat) _ c.as_slice-row.ensures e (omega arith))
          ∙ answers_data beat.op;
      size = λ v beat e. row_value v c.args.below.now.head _ 1 (d_fields beat) _ c.as_slice-row.ensures e (omega arith);
      address = refl;
    }
