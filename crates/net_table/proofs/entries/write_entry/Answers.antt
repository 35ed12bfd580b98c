use Rattle.std.proofs.Common.{◌+◌, ◌∙◌, ap, length}
use Rattle.std.proofs.lemmas.List.{length_push}
use Rattle.net_build.proofs.Steps.{adds_adds, bit_adds, wire_adds}
use Rattle.net_table.proofs.Indexed.{entries_more, entry_at, written_all, written_more}
use Rattle.net_table.proofs.entries.write_entry.Goals as goal

pub loop-place-preserved : goal.loop-place-preserved
loop-place-preserved c =
    let i = c.loop-place.invariant in
    let g = c.in_ok-wire.ensures.adds in
    let p = c.in_ok-push.ensures.ok in
    let w = c.in_ok-wire.wire in
    record {
      adds = adds_adds _ _ _ i.adds g;
      long = ap length p ∙ length_push c.loop-place.out w ∙ ap (λ n. n + 1) i.long;
      entries = entries_more _ _ c.args.item.width c.loop-place.out _ w g.later i.entries c.in_ok-wire.ensures.wire.0 c.in_ok-wire.ensures.wire.1 p;
      values = written_more _ _ c.args.entries.now c.loop-place.out _ c.args.write c.args.index c.args.item w c.loop-place.place _ c.loop-place-test.true g i.values c.in_ok-wire.ensures.value p;
    }

pub returns-clause-values : goal.returns-clause-values
returns-clause-values c = written_all _ c.args.entries.now c.loop-place.out c.args.write c.args.index c.args.item c.loop-place.place c.loop-place-test.false c.loop-place.invariant.values

pub write_one-requires-clause-wires : goal.write_one-requires-clause-wires
write_one-requires-clause-wires c =
    let g = c.loop-place.invariant.adds in
    ((entry_at _ _ c.args.item.width c.args.entries.now c.loop-place.place _ g c.requires.entries c.loop-place-test.true).0, wire_adds _ _ c.args.index g c.requires.wires.0, wire_adds _ _ c.args.item g c.requires.wires.1)

pub write_one-requires-clause-write : goal.write_one-requires-clause-write
write_one-requires-clause-write c = bit_adds _ _ c.args.write c.loop-place.invariant.adds c.requires.write
