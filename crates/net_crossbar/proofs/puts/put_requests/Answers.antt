use Rattle.std.proofs.Common.{arith}
use Rattle.net_build.proofs.Steps.{adds_adds}
use Rattle.net_crossbar.proofs.Fits.{row_slice}
use Rattle.net_crossbar.proofs.Lists.{all_more, long_more}
use Rattle.net_crossbar.proofs.Putting.{put_adds, put_here, served_row_here}
use Rattle.net_crossbar.proofs.puts.put_requests.Goals as goal

pub put_served-requires-clause-serving : goal.put_served-requires-clause-serving
put_served-requires-clause-serving c = served_row_here _ _ 7 c.args.servings.now c.loop-place.place _ c.loop-place-test.true c.index-servings-place.is c.loop-place.invariant.adds c.requires.servings

pub put_served-requires-clause-like : goal.put_served-requires-clause-like
put_served-requires-clause-like c = row_slice _ _ 7 c.args.likes.now c.loop-place.place _ _ (omega (arith, c.loop-place-test.true, c.requires.long)) c.as_slice.ensures c.index-likes-place.is c.loop-place.invariant.adds c.requires.likes

pub loop-place-preserved : goal.loop-place-preserved
loop-place-preserved c =
    let i = c.loop-place.invariant in
    let g = c.in_ok-put.ensures.adds in
    let w = c.in_ok-put.put in
    let p = c.in_ok-push.ensures.ok in
    let l = c.loop-place-test.true in
    record {
      adds = adds_adds _ _ _ i.adds g;
      long = long_more c.loop-place.out _ w c.loop-place.place i.long p;
      puts = all_more _ _ c.loop-place.out _ w c.loop-place.place (λ k x h s. put_adds _ _ _ _ x g (h s)) i.puts i.long
          (put_here _ c.args.likes.now c.args.servings.now c.loop-place.place _ _ _ w (omega (arith, l, c.requires.long)) l c.as_slice.ensures c.index-likes-place.is c.index-servings-place.is c.in_ok-put.ensures.puts) p;
    }
