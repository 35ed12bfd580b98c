use Rattle.std.proofs.Common.{◌+◌, ◌∙◌, length, get_or, ap, sym, arith}
use Rattle.std.proofs.lemmas.List.{length-map, length_push}
use Rattle.net_build.specs.declared.types.Wire.{Wire}
use Rattle.net_build.proofs.Steps.{adds_adds, wire_adds}
use Rattle.net_build.proofs.OpenedLists.{widths_later, widths_more}
use Rattle.net_queue.specs.Rows.{row_widths}
use Rattle.net_queue.proofs.Alike.{width_at}
use Rattle.net_queue.proofs.Fitted.{keep_more, row_kept}
use Rattle.net_queue.proofs.fit.fit_row.Goals as goal

pub fit_wire-requires-clause-wire : goal.fit_wire-requires-clause-wire
fit_wire-requires-clause-wire c = wire_adds _ _ _ c.loop-place.invariant.adds (c.requires.wires.each c.loop-place.place _ (omega (arith, c.requires.long, c.loop-place-test.true))).0

pub fit_wire-requires-clause-width : goal.fit_wire-requires-clause-width
fit_wire-requires-clause-width c = (c.requires.like.each c.loop-place.place _ c.loop-place-test.true).0.sized

pub loop-place-preserved : goal.loop-place-preserved
loop-place-preserved c =
    let i = c.loop-place.invariant in
    let g = c.in_ok-fitted.ensures.adds in
    let w = c.in_ok-fitted.fitted in
    let p = c.in_ok-push.ensures.ok in
    let l = c.loop-place-test.true in
    record {
      adds = adds_adds _ _ _ i.adds g;
      long = ap length p ∙ length_push c.loop-place.out w ∙ ap (λ n. n + 1) i.long;
      wires = widths_more _ _ (row_widths c.args.like.now) c.loop-place.out _ w g.later i.wires c.in_ok-fitted.ensures.wire.0 (c.in_ok-fitted.ensures.wire.1 ∙ width_at c.args.like.now c.loop-place.place _ l ∙ ap (λ n. get_or (row_widths c.args.like.now) n 0) (sym i.long)) p;
      keeps = keep_more _ _ c.args.wires.now c.loop-place.out _ w c.loop-place.place _ g.later i.long (omega (arith, c.requires.long, l)) i.keeps c.in_ok-fitted.ensures.keeps p;
    }

pub returns-clause-alike : goal.returns-clause-alike
returns-clause-alike c =
    let i = c.loop-place.invariant in
    record {
      long = omega (arith, i.long, c.loop-place-test.false, c.loop-place.auto.place-end);
      one = widths_later _ _ (row_widths c.args.like.now) c.args.like.now i.adds.later c.requires.like;
      other = i.wires;
    }

pub returns-clause-keeps : goal.returns-clause-keeps
returns-clause-keeps c =
    let i = c.loop-place.invariant in
    let e = length-map c.args.like.now (λ (w : Wire). w.width) in
    row_kept _ c.args.wires.now c.loop-place.out (row_widths c.args.like.now) (omega (arith, e, i.long, c.loop-place-test.false, c.loop-place.auto.place-end)) (omega (arith, e, c.requires.long)) i.wires i.keeps
