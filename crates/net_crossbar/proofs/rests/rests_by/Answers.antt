use Rattle.std.proofs.Common.{[], List, subst}
use Rattle.net_build.specs.declared.types.Wire.{Wire}
use Rattle.net_build.specs.Bits.{wire_values}
use Rattle.net_build.specs.Values.{Means}
use Rattle.net_build.proofs.Steps.{adds_adds, means_adds}
use Rattle.net_table.proofs.Indexed.{entries_more}
use Rattle.net_crossbar.specs.Rests.{beats_behind_head}
use Rattle.net_crossbar.proofs.Asked.{told_here}
use Rattle.net_crossbar.proofs.Counted.{table_adds}
use Rattle.net_crossbar.proofs.Lists.{all_more, long_more, read_here}
use Rattle.net_crossbar.proofs.rests.rests_by.Goals as goal

pub rest_on-requires-clause-table : goal.rest_on-requires-clause-table
rest_on-requires-clause-table c = table_adds _ _ c.args.bytes c.args.table.now c.loop-place.invariant.adds c.requires.table

pub rest_on-requires-clause-wires : goal.rest_on-requires-clause-wires
rest_on-requires-clause-wires c = (told_here _ _ c.args.rows.now c.loop-place.place _ _ c.loop-place-test.true c.as_slice-row.ensures c.index-rows-place.is c.loop-place.invariant.adds c.requires.rows).wires

pub loop-place-preserved : goal.loop-place-preserved
loop-place-preserved c =
    let i = c.loop-place.invariant in
    let g = c.in_ok-wire.ensures.adds in
    let w = c.in_ok-wire.wire in
    let p = c.in_ok-push.ensures.ok in
    let e = read_here c.args.rows.now c.loop-place.place _ _ [] c.loop-place-test.true c.as_slice-row.ensures c.index-rows-place.is in
    record {
      adds = adds_adds _ _ _ i.adds g;
      long = long_more c.loop-place.out _ w c.loop-place.place i.long p;
      entries = entries_more _ _ 8 c.loop-place.out _ w g.later i.entries c.in_ok-wire.ensures.wire.0 c.in_ok-wire.ensures.wire.1 p;
      tells = all_more _ _ c.loop-place.out _ w c.loop-place.place (λ k x m. means_adds _ _ x _ g m) i.tells i.long
          (subst (λ (ws : List Wire). Means c.rest_on.new.builder w (λ v. beats_behind_head c.args.channel c.args.bytes (wire_values v ws))) e c.in_ok-wire.ensures.value) p;
    }
