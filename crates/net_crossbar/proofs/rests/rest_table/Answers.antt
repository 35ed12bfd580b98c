use Rattle.net_build.proofs.Steps.{adds_adds, means_adds}
use Rattle.net_table.proofs.Indexed.{entries_more}
use Rattle.net_crossbar.proofs.Lists.{all_more, long_more}
use Rattle.net_crossbar.proofs.Counted.{means_same}
use Rattle.net_crossbar.proofs.rests.rest_table.Goals as goal

pub loop-size-preserved : goal.loop-size-preserved
loop-size-preserved c =
    let i = c.loop-size.invariant in
    let g = c.in_ok-wire.ensures.adds in
    let w = c.in_ok-wire.wire in
    let p = c.in_ok-push.ensures.ok in
    record {
      adds = adds_adds _ _ _ i.adds g;
      long = long_more c.loop-size.out _ w c.loop-size.size i.long p;
      entries = entries_more _ _ 8 c.loop-size.out _ w g.later i.entries c.in_ok-wire.ensures.wire.0 c.in_ok-wire.ensures.wire.1 p;
      tells = all_more _ _ c.loop-size.out _ w c.loop-size.size (λ k x m. means_adds _ _ x _ g m) i.tells i.long (means_same _ w _ _ c.beats_behind.ensures.value c.in_ok-wire.ensures.value) p;
    }
