use Rattle.net_build.proofs.Steps.{adds_adds}
use Rattle.net_crossbar.proofs.Lists.{all_more, long_more}
use Rattle.net_crossbar.proofs.Served.{grants_adds, taken_adds}
use Rattle.net_crossbar.proofs.takes.build_takes.Goals as goal

pub take-requires-clause-grants : goal.take-requires-clause-grants
take-requires-clause-grants c = grants_adds _ _ c.args.count c.args.servings.now c.loop-head.invariant.adds c.requires

pub loop-head-preserved : goal.loop-head-preserved
loop-head-preserved c =
    let i = c.loop-head.invariant in
    let g = c.in_ok-wire.ensures.adds in
    let w = c.in_ok-wire.wire in
    let p = c.in_ok-push.ensures.ok in
    record {
      adds = adds_adds _ _ _ i.adds g;
      long = long_more c.loop-head.out _ w c.loop-head.head i.long p;
      takes = all_more _ _ c.loop-head.out _ w c.loop-head.head (λ k x h. taken_adds _ _ c.args.servings.now k x g h) i.takes i.long c.in_ok-wire.ensures.tells p;
    }
