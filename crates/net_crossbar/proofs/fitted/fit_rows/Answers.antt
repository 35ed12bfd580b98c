use Rattle.net_build.proofs.OpenedLists.{widths_later}
use Rattle.net_build.proofs.Steps.{adds_adds}
use Rattle.net_queue.specs.Rows.{row_widths}
use Rattle.net_crossbar.proofs.Fits.{fitted_adds, fitted_here, like_wires, row_slice}
use Rattle.net_crossbar.proofs.Lists.{all_more, long_more}
use Rattle.net_crossbar.proofs.fitted.fit_rows.Goals as goal

pub fit_row-requires-clause-wires : goal.fit_row-requires-clause-wires
fit_row-requires-clause-wires c = (row_slice _ _ c.args.count c.args.rows.now c.loop-place.place _ _ c.loop-place-test.true c.as_slice-row.ensures c.index-rows-place.is c.loop-place.invariant.adds c.requires.rows).wires

pub fit_row-requires-clause-like : goal.fit_row-requires-clause-like
fit_row-requires-clause-like c = widths_later _ _ (row_widths c.args.like.now) c.args.like.now c.loop-place.invariant.adds.later (like_wires _ c.args.rows.now c.args.count c.args.like.now c.requires.rows c.requires.long c.requires.widest)

pub loop-place-preserved : goal.loop-place-preserved
loop-place-preserved c =
    let i = c.loop-place.invariant in
    let g = c.in_ok-fitted.ensures.adds in
    let w = c.in_ok-fitted.fitted in
    let p = c.in_ok-push.ensures.ok in
    let l = c.loop-place-test.true in
    let r = row_slice _ _ c.args.count c.args.rows.now c.loop-place.place _ _ l c.as_slice-row.ensures c.index-rows-place.is i.adds c.requires.rows in
    record {
      adds = adds_adds _ _ _ i.adds g;
      long = long_more c.loop-place.out _ w c.loop-place.place i.long p;
      fitted = all_more _ _ c.loop-place.out _ w c.loop-place.place (λ k x h. fitted_adds _ _ c.args.like.now _ x g h) i.fitted i.long
          (fitted_here _ _ c.args.rows.now c.args.count c.loop-place.place c.args.like.now _ _ w l c.as_slice-row.ensures c.index-rows-place.is r c.requires.long c.requires.widest g c.in_ok-fitted.ensures.alike c.in_ok-fitted.ensures.keeps) p;
    }
