use Rattle.std.proofs.Common.{sym, subst}
use Rattle.net_build.proofs.Steps.{adds_adds, bit_adds, wire_adds}
use Rattle.net_slots.proofs.Cycles.{taken_means}
use Rattle.net_table.specs.Tables.{AreEntries}
use Rattle.net_table.proofs.Indexed.{entries_later}
use Rattle.net_slots.proofs.slots.next_taken.Goals as goal

pub write_entry-requires-clause-entries : goal.write_entry-requires-clause-entries
write_entry-requires-clause-entries c =
    let g = adds_adds _ _ _ c.in_ok-one.ensures.adds c.in_ok-none.ensures.adds in
    subst (λ n. AreEntries c.constant-2.new.self n c.args.taken.now) (sym c.in_ok-one.ensures.wire.1) (entries_later _ _ 1 c.args.taken.now g.later c.requires.taken)

pub write_entry-requires-clause-write : goal.write_entry-requires-clause-write
write_entry-requires-clause-write c = bit_adds _ _ c.args.begins (adds_adds _ _ _ c.in_ok-one.ensures.adds c.in_ok-none.ensures.adds) c.requires.bits.0

pub write_entry-requires-clause-wires : goal.write_entry-requires-clause-wires
write_entry-requires-clause-wires c =
    (wire_adds _ _ c.args.id (adds_adds _ _ _ c.in_ok-one.ensures.adds c.in_ok-none.ensures.adds) c.requires.ids.0, wire_adds _ _ c.in_ok-one.one c.in_ok-none.ensures.adds c.in_ok-one.ensures.wire.0)

pub write_entry-requires-2-clause-write : goal.write_entry-requires-2-clause-write
write_entry-requires-2-clause-write c = bit_adds _ _ c.args.frees (adds_adds _ _ _ (adds_adds _ _ _ c.in_ok-one.ensures.adds c.in_ok-none.ensures.adds) c.in_ok-begun.ensures.adds) c.requires.bits.1

pub write_entry-requires-2-clause-wires : goal.write_entry-requires-2-clause-wires
write_entry-requires-2-clause-wires c =
    (wire_adds _ _ c.args.new (adds_adds _ _ _ (adds_adds _ _ _ c.in_ok-one.ensures.adds c.in_ok-none.ensures.adds) c.in_ok-begun.ensures.adds) c.requires.ids.1, wire_adds _ _ c.in_ok-none.none c.in_ok-begun.ensures.adds c.in_ok-none.ensures.wire.0)

pub returns-clause-adds : goal.returns-clause-adds
returns-clause-adds c = adds_adds _ _ _ (adds_adds _ _ _ (adds_adds _ _ _ c.in_ok-one.ensures.adds c.in_ok-none.ensures.adds) c.in_ok-begun.ensures.adds) c.in_ok-ended.ensures.adds

pub returns-clause-values : goal.returns-clause-values
returns-clause-values c =
    taken_means _ _ _ _ c.args.taken.now c.in_ok-begun.begun c.as_slice.result.now c.in_ok-ended.ended c.in_ok-one.one c.in_ok-none.none c.args.begins c.args.id c.args.frees c.args.new
    c.in_ok-none.ensures.adds c.in_ok-begun.ensures.adds c.in_ok-ended.ensures.adds c.in_ok-one.ensures.value c.in_ok-none.ensures.value c.in_ok-begun.ensures.values c.as_slice.ensures c.in_ok-ended.ensures.values
