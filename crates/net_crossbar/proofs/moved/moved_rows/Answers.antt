use Rattle.std.proofs.Common.{[], List, get_or, arith, refl, ap, ◌∙◌}
use Rattle.net_build.specs.declared.types.Wire.{Wire}
use Rattle.net_build.specs.Columns.{no_wire}
use Rattle.net_build.proofs.Steps.{adds_adds}
use Rattle.net_crossbar.proofs.Lists.{all_more, long_more, read_here}
use Rattle.net_crossbar.proofs.Moves.{moves_adds, moves_here, row_adds, row_here}
use Rattle.net_crossbar.proofs.moved.moved_rows.Goals as goal

pub moved_row-requires-clause-row : goal.moved_row-requires-clause-row
moved_row-requires-clause-row c = row_here _ _ 7 c.args.rows.now c.loop-place.place _ c.loop-place-test.true c.index-rows-place.is c.loop-place.invariant.adds c.requires.rows

pub loop-place-preserved : goal.loop-place-preserved
loop-place-preserved c =
    let i = c.loop-place.invariant in
    let g = c.in_ok-row.ensures.adds in
    let w = c.in_ok-row.row in
    let p = c.in_ok-push.ensures.ok in
    let l = c.loop-place-test.true in
    record {
      adds = adds_adds _ _ _ i.adds g;
      long = long_more c.loop-place.out _ w c.loop-place.place i.long p;
      rows = all_more _ _ c.loop-place.out _ w c.loop-place.place (λ k x h. row_adds _ _ 7 x g h) i.rows i.long c.in_ok-row.ensures.row p;
      first = all_more _ _ c.loop-place.out _ w c.loop-place.place (λ k x h. h) i.first i.long
          (c.in_ok-row.ensures.first ∙ ap (λ (ws : List Wire). get_or ws 0 no_wire) (read_here c.args.rows.now c.loop-place.place _ _ [] l refl c.index-rows-place.is)) p;
      moves = all_more _ _ c.loop-place.out _ w c.loop-place.place (λ k x h. moves_adds _ _ 3 _ _ x g h) i.moves i.long
          (moves_here _ 3 c.args.rows.now c.args.blocks.now c.loop-place.place _ _ _ w l (omega (arith, l, c.requires.long)) c.index-rows-place.is refl c.in_ok-row.ensures.moves) p;
    }
