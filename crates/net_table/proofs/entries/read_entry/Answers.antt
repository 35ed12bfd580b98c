use Rattle.std.proofs.Common.{◌∙◌}
use Rattle.net_build.proofs.Steps.{adds_adds, wire_adds}
use Rattle.net_table.proofs.Indexed.{entry_at, read_all, read_more, read_none}
use Rattle.net_table.proofs.entries.read_entry.Goals as goal

pub loop-place-init : goal.loop-place-init
loop-place-init c = record {
  adds = c.in_ok-out.ensures.adds;
  wire = c.in_ok-out.ensures.wire;
  value = read_none _ c.args.entries.now c.in_ok-out.out c.args.index c.in_ok-out.ensures.value;
}

pub loop-place-preserved : goal.loop-place-preserved
loop-place-preserved c =
    let i = c.loop-place.invariant in
    let g = c.in_ok-out-2.ensures.adds in
    let e = entry_at _ _ c.args.width c.args.entries.now c.loop-place.place _ i.adds c.requires.entries c.loop-place-test.true in
    record {
      adds = adds_adds _ _ _ i.adds g;
      wire = (c.in_ok-out-2.ensures.wire.0, c.in_ok-out-2.ensures.wire.1 ∙ e.1);
      value = read_more _ _ c.args.entries.now c.loop-place.out c.in_ok-out-2.out c.args.index c.loop-place.place _ c.loop-place-test.true g i.value c.in_ok-out-2.ensures.value;
    }

pub returns-clause-value : goal.returns-clause-value
returns-clause-value c = read_all _ c.args.entries.now c.loop-place.out c.args.index c.loop-place.place c.loop-place-test.false c.loop-place.invariant.value

pub read_one-requires-clause-wires : goal.read_one-requires-clause-wires
read_one-requires-clause-wires c =
    let i = c.loop-place.invariant in
    ((entry_at _ _ c.args.width c.args.entries.now c.loop-place.place _ i.adds c.requires.entries c.loop-place-test.true).0, wire_adds _ _ c.args.index i.adds c.requires.index, i.wire.0)
