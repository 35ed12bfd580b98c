use Rattle.net_build.proofs.Folded.{bits_adds}
use Rattle.net_build.proofs.Steps.{adds_adds}
use Rattle.net_crossbar.proofs.Lists.{all_more, long_more}
use Rattle.net_crossbar.proofs.Putting.{ask_owner_adds, fields_adds}
use Rattle.net_crossbar.proofs.ways.output_wants.Goals as goal

pub edge_wants-requires-clause-valids : goal.edge_wants-requires-clause-valids
edge_wants-requires-clause-valids c = (bits_adds _ _ c.args.valids.now c.loop-place.invariant.adds c.requires.valids.0, c.requires.valids.1)

pub edge_wants-requires-clause-rows : goal.edge_wants-requires-clause-rows
edge_wants-requires-clause-rows c = fields_adds _ _ 4 c.args.rows.now c.loop-place.invariant.adds c.requires.rows

pub loop-place-preserved : goal.loop-place-preserved
loop-place-preserved c =
    let i = c.loop-place.invariant in
    let g = c.in_ok-wants.ensures.adds in
    let w = c.in_ok-wants.wants in
    let p = c.in_ok-push.ensures.ok in
    record {
      adds = adds_adds _ _ _ i.adds g;
      long = long_more c.loop-place.out _ w c.loop-place.place i.long p;
      asks = all_more _ _ c.loop-place.out _ w c.loop-place.place (λ k x h. ask_owner_adds _ _ c.args.valids.now c.args.rows.now _ x g h) i.asks i.long c.in_ok-wants.ensures.asks p;
    }
