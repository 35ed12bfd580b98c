use Rattle.std.proofs.Common.{List, ap, sym, ◌∙◌, length, subst}
use Rattle.net_build.specs.declared.types.Wire.{Wire}
use Rattle.net_build.proofs.Steps.{adds_adds, bit_adds, tells_adds, wire_adds}
use Rattle.net_slots.proofs.Cycles.{next_is, next_shape}
use Rattle.net_table.specs.Tables.{AreEntries}
use Rattle.net_table.proofs.Indexed.{entries_later}
use Rattle.net_slots.proofs.slots.next_slots.Goals as goal

pub next_left-requires-clause-wires : goal.next_left-requires-clause-wires
next_left-requires-clause-wires c =
    let g = c.in_ok-begins.ensures.adds in
    (wire_adds _ _ c.args.slots.now.asking g c.requires.shape.asking.wire, wire_adds _ _ c.args.moves.now.rest g c.requires.moves.rest.wire)

pub next_left-requires-clause-bits : goal.next_left-requires-clause-bits
next_left-requires-clause-bits c =
    let g = c.in_ok-begins.ensures.adds in
    (bit_adds _ _ c.args.idle g c.requires.bits.0, bit_adds _ _ c.args.passes g c.requires.bits.1)

pub next_left-requires-clause-idle : goal.next_left-requires-clause-idle
next_left-requires-clause-idle c = tells_adds _ _ c.args.idle _ c.in_ok-begins.ensures.adds c.requires.idle

pub next_taken-requires-clause-taken : goal.next_taken-requires-clause-taken
next_taken-requires-clause-taken c =
    let g = adds_adds _ _ _ c.in_ok-begins.ensures.adds c.in_ok-asking.ensures.adds in
    subst (λ (ws : List Wire). AreEntries c.next_left.new.builder 1 ws) (sym c.as_slice.ensures) (entries_later _ _ 1 c.args.slots.now.taken g.later c.requires.shape.taken.entries)

pub next_taken-requires-clause-bits : goal.next_taken-requires-clause-bits
next_taken-requires-clause-bits c =
    let g = adds_adds _ _ _ c.in_ok-begins.ensures.adds c.in_ok-asking.ensures.adds in
    (bit_adds _ _ c.in_ok-begins.begins c.in_ok-asking.ensures.adds c.in_ok-begins.ensures.bit, bit_adds _ _ c.args.moves.now.frees g c.requires.moves.frees)

pub next_taken-requires-clause-ids : goal.next_taken-requires-clause-ids
next_taken-requires-clause-ids c =
    let g = adds_adds _ _ _ c.in_ok-begins.ensures.adds c.in_ok-asking.ensures.adds in
    (wire_adds _ _ c.args.id g c.requires.id, wire_adds _ _ c.args.moves.now.new g c.requires.moves.new)

pub write_entry-requires-clause-entries : goal.write_entry-requires-clause-entries
write_entry-requires-clause-entries c =
    let g = adds_adds _ _ _ (adds_adds _ _ _ c.in_ok-begins.ensures.adds c.in_ok-asking.ensures.adds) c.in_ok-taken.ensures.adds in
    subst (λ (ws : List Wire). AreEntries c.next_taken.new.builder c.args.moves.now.old.width ws) (sym c.as_slice-2.ensures) (entries_later _ _ c.args.moves.now.old.width c.args.slots.now.olds g.later c.requires.shape.olds.entries)

pub write_entry-requires-clause-write : goal.write_entry-requires-clause-write
write_entry-requires-clause-write c = bit_adds _ _ c.in_ok-begins.begins (adds_adds _ _ _ c.in_ok-asking.ensures.adds c.in_ok-taken.ensures.adds) c.in_ok-begins.ensures.bit

pub write_entry-requires-clause-wires : goal.write_entry-requires-clause-wires
write_entry-requires-clause-wires c =
    let g = adds_adds _ _ _ (adds_adds _ _ _ c.in_ok-begins.ensures.adds c.in_ok-asking.ensures.adds) c.in_ok-taken.ensures.adds in
    (wire_adds _ _ c.args.id g c.requires.id, wire_adds _ _ c.args.moves.now.old g c.requires.moves.old.wire)

pub returns-clause-adds : goal.returns-clause-adds
returns-clause-adds c = adds_adds _ _ _ (adds_adds _ _ _ (adds_adds _ _ _ c.in_ok-begins.ensures.adds c.in_ok-asking.ensures.adds) c.in_ok-taken.ensures.adds) c.in_ok-olds.ensures.adds

pub returns-clause-shape : goal.returns-clause-shape
returns-clause-shape c =
    let g3 = c.in_ok-olds.ensures.adds in
    let g2 = adds_adds _ _ _ c.in_ok-taken.ensures.adds g3 in
    let g0 = adds_adds _ _ _ (adds_adds _ _ _ c.in_ok-begins.ensures.adds c.in_ok-asking.ensures.adds) g2 in
    next_shape _ _ _ _ _ _ _ 0 c.args.moves.now.old.width c.args.slots.now c.args.id c.in_ok-asking.asking c.in_ok-taken.taken c.in_ok-olds.olds g0.later g2.later g3.later
    c.requires.shape c.requires.id c.in_ok-asking.ensures.wire.0 c.in_ok-asking.ensures.wire.1 c.in_ok-taken.ensures.entries (ap length c.as_slice.ensures) c.in_ok-olds.ensures.entries c.in_ok-olds.ensures.long (ap length c.as_slice-2.ensures)

pub returns-clause-next : goal.returns-clause-next
returns-clause-next c =
    next_is _ _ _ _ _ c.args.slots.now c.args.moves.now c.args.idle c.args.passes c.args.id c.in_ok-begins.begins c.in_ok-asking.asking c.in_ok-taken.taken c.in_ok-olds.olds c.as_slice.result.now c.as_slice-2.result.now
    c.in_ok-begins.ensures.adds c.in_ok-asking.ensures.adds c.in_ok-taken.ensures.adds c.in_ok-olds.ensures.adds
    c.requires.idle c.requires.passes c.requires.chosen c.in_ok-begins.ensures.tells c.in_ok-asking.ensures.value c.as_slice.ensures c.in_ok-taken.ensures.values c.as_slice-2.ensures c.in_ok-olds.ensures.values
