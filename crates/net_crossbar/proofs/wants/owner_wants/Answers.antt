use Rattle.std.proofs.Common.{arith}
use Rattle.net_build.proofs.Folded.{bit_at}
use Rattle.net_build.proofs.Steps.{adds_adds}
use Rattle.net_crossbar.proofs.Asked.{field_here, owner_adds, owner_here}
use Rattle.net_crossbar.proofs.Lists.{all_more, long_more}
use Rattle.net_crossbar.proofs.wants.owner_wants.Goals as goal

pub asks_owner-requires-clause-valid : goal.asks_owner-requires-clause-valid
asks_owner-requires-clause-valid c = bit_at _ _ c.args.valids.now c.loop-place.place _ c.requires.valids.0 c.loop-place.invariant.adds (omega (arith, c.loop-place-test.true, c.requires.valids.1))

pub asks_owner-requires-clause-address : goal.asks_owner-requires-clause-address
asks_owner-requires-clause-address c = field_here _ _ 4 c.args.rows.now c.loop-place.place _ _ c.loop-place-test.true c.as_slice-row.ensures c.index-rows-place.is c.loop-place.invariant.adds c.requires.rows

pub loop-place-preserved : goal.loop-place-preserved
loop-place-preserved c =
    let i = c.loop-place.invariant in
    let g = c.in_ok-wire.ensures.adds in
    let w = c.in_ok-wire.wire in
    let p = c.in_ok-push.ensures.ok in
    record {
      adds = adds_adds _ _ _ i.adds g;
      long = long_more c.loop-place.out _ w c.loop-place.place i.long p;
      asks = all_more _ _ c.loop-place.out _ w c.loop-place.place (λ k x h. owner_adds _ _ c.args.slaves.now _ _ x g h) i.asks i.long
          (owner_here _ c.args.slaves.now _ w c.args.rows.now c.loop-place.place _ _ c.loop-place-test.true c.as_slice-row.ensures c.index-rows-place.is c.in_ok-wire.ensures.asks) p;
    }
