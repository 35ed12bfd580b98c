use Rattle.std.proofs.Common.{◌+◌, ◌∙◌, length, ap, sym, arith}
use Rattle.std.specs.Prelude.{slice_index_or}
use Rattle.std.proofs.lemmas.List.{length_push}
use Rattle.net_build.proofs.Steps.{adds_adds}
use Rattle.net_build.proofs.Folded.{bits_adds}
use Rattle.net_build.proofs.OpenedLists.{widths_more}
use Rattle.net_build.proofs.RowLists.{column_one_width, column_width, row_all, row_more, rows_adds}
use Rattle.net_build.proofs.builder.Builder.choose_row.Goals as goal

pub choose-requires-clause-picks : goal.choose-requires-clause-picks
choose-requires-clause-picks c = bits_adds _ _ c.args.picks.now c.loop-place.invariant.adds c.requires.picks

pub choose-requires-clause-values : goal.choose-requires-clause-values
choose-requires-clause-values c =
    column_one_width c.loop-place.self c.args.widths.now c.args.rows.now c.as_slice.result.now c.loop-place.place (c.as_slice.ensures ∙ c.in_ok-wires.ensures) c.loop-place-test.true (omega (arith, c.requires.some, c.requires.long))
    (rows_adds _ _ c.args.widths.now c.args.rows.now c.loop-place.invariant.adds c.requires.rows)

pub loop-place-preserved : goal.loop-place-preserved
loop-place-preserved c =
    let i = c.loop-place.invariant in
    let g = c.in_ok-chosen.ensures.adds in
    let p = c.in_ok-push.ensures.ok in
    let is = c.as_slice.ensures ∙ c.in_ok-wires.ensures in
    let b = c.loop-place-test.true in
    let h = rows_adds _ _ c.args.widths.now c.args.rows.now i.adds c.requires.rows in
    let w = c.in_ok-chosen.chosen in
    record {
      adds = adds_adds _ _ _ i.adds g;
      long = ap length p ∙ length_push c.loop-place.out w ∙ ap (λ n. n + 1) i.long;
      wires = widths_more _ _ c.args.widths.now c.loop-place.out _ w g.later i.wires c.in_ok-chosen.ensures.wire.0
          (c.in_ok-chosen.ensures.wire.1 ∙ column_width _ c.args.widths.now c.args.rows.now c.as_slice.result.now c.loop-place.place is b (omega (arith, c.requires.some, c.requires.long)) h ∙ ap (λ n. slice_index_or c.args.widths.now n 0) (sym i.long)) p;
      rest = row_more _ _ c.args.widths.now c.args.picks.now c.args.rows.now c.loop-place.out _ c.as_slice.result.now w c.loop-place.place b c.requires.rows.long g i.rest is c.in_ok-chosen.ensures.value p;
    }

pub returns-clause-values : goal.returns-clause-values
returns-clause-values c = row_all _ c.args.widths.now c.args.picks.now c.args.rows.now c.loop-place.out c.loop-place.place c.loop-place-test.false c.requires.rows.long c.loop-place.invariant.rest
