use Rattle.std.proofs.Common.{◌+◌, ◌∙◌, length, get_or, ap, sym, arith}
use Rattle.std.proofs.lemmas.List.{length_push}
use Rattle.net_build.proofs.Steps.{adds_adds, bit_adds}
use Rattle.net_build.proofs.OpenedLists.{widths_later, widths_more}
use Rattle.net_queue.specs.Rows.{row_widths}
use Rattle.net_queue.proofs.Alike.{alike_adds, same_width, width_at, wire_xs, wire_ys}
use Rattle.net_queue.proofs.Chosen.{all_picked, one_more}
use Rattle.net_queue.proofs.rows.mux_row.Goals as goal

pub mux-requires-clause-wires : goal.mux-requires-clause-wires
mux-requires-clause-wires c =
    let h = alike_adds _ _ c.args.these.now c.args.those.now c.loop-place.invariant.adds c.requires.rows in
    (wire_xs _ _ c.args.those.now c.loop-place.place _ h c.loop-place-test.true, wire_ys _ c.args.these.now _ c.loop-place.place _ h c.loop-place-test.true)

pub mux-requires-clause-width : goal.mux-requires-clause-width
mux-requires-clause-width c = same_width _ c.args.these.now c.args.those.now c.loop-place.place _ _ c.requires.rows c.loop-place-test.true

pub loop-place-preserved : goal.loop-place-preserved
loop-place-preserved c =
    let i = c.loop-place.invariant in
    let g = c.in_ok-chosen.ensures.adds in
    let w = c.in_ok-chosen.chosen in
    let p = c.in_ok-push.ensures.ok in
    let l = c.loop-place-test.true in
    record {
      adds = adds_adds _ _ _ i.adds g;
      long = ap length p ∙ length_push c.loop-place.out w ∙ ap (λ n. n + 1) i.long;
      wires = widths_more _ _ (row_widths c.args.these.now) c.loop-place.out _ w g.later i.wires c.in_ok-chosen.ensures.wire.0 (c.in_ok-chosen.ensures.wire.1 ∙ width_at c.args.these.now c.loop-place.place _ l ∙ ap (λ n. get_or (row_widths c.args.these.now) n 0) (sym i.long)) p;
      values = one_more _ _ c.args.pick c.args.these.now c.args.those.now c.loop-place.out _ w c.loop-place.place _ _ l c.requires.rows.long g i.values c.in_ok-chosen.ensures.value p;
    }

pub returns-clause-alike : goal.returns-clause-alike
returns-clause-alike c =
    let i = c.loop-place.invariant in
    record {
      long = omega (arith, i.long, c.loop-place-test.false, c.loop-place.auto.place-end);
      one = widths_later _ _ (row_widths c.args.these.now) c.args.these.now i.adds.later c.requires.rows.one;
      other = i.wires;
    }

pub returns-clause-values : goal.returns-clause-values
returns-clause-values c = all_picked _ c.args.pick c.args.these.now c.args.those.now c.loop-place.out c.loop-place.place c.loop-place-test.false c.requires.rows.long c.loop-place.invariant.values

pub mux-requires-clause-pick : goal.mux-requires-clause-pick
mux-requires-clause-pick c = bit_adds _ _ c.args.pick c.loop-place.invariant.adds c.requires.pick
