use Rattle.std.proofs.Common.{List, refl, sym, ◌∙◌, subst}
use Rattle.net_build.specs.declared.types.Wire.{Wire}
use Rattle.net_build.proofs.Steps.{adds_adds, bit_adds, means_adds, tells_adds, wire_adds}
use Rattle.net_slots.proofs.Cycles.{moves_later, moves_of, pass_is, shape_later, shape_of, sized_later, tell_all}
use Rattle.net_table.specs.Tables.{AreEntries}
use Rattle.net_table.proofs.Indexed.{entries_later}
use Rattle.net_slots.proofs.slots.around.Goals as goal

pub let_pass-requires : goal.let_pass-requires
let_pass-requires c = (bit_adds _ _ c.args.moves.now.wants c.in_ok-choice.ensures.adds c.requires.moves.wants, c.in_ok-choice.ensures.bits.0, c.in_ok-choice.ensures.bits.1)

pub read_entry-requires-clause-entries : goal.read_entry-requires-clause-entries
read_entry-requires-clause-entries c =
    let g = adds_adds _ _ _ c.in_ok-choice.ensures.adds c.in_ok-passes.ensures.adds in
    subst (λ (ws : List Wire). AreEntries c.let_pass.new.builder c.args.old_bits ws) (sym c.as_slice.ensures) (entries_later _ _ c.args.old_bits c.args.slots.now.olds g.later c.requires.shape.olds.entries)

pub read_entry-requires-clause-index : goal.read_entry-requires-clause-index
read_entry-requires-clause-index c = wire_adds _ _ c.args.moves.now.new (adds_adds _ _ _ c.in_ok-choice.ensures.adds c.in_ok-passes.ensures.adds) c.requires.moves.new

pub next_slots-requires-clause-shape : goal.next_slots-requires-clause-shape
next_slots-requires-clause-shape c =
    let g = adds_adds _ _ _ (adds_adds _ _ _ c.in_ok-choice.ensures.adds c.in_ok-passes.ensures.adds) c.in_ok-old.ensures.adds in
    shape_of _ _ c.args.new_bits _ c.args.old_bits _ c.args.slots.now (sym (c.in_ok-choice.ensures.wire.sized ∙ c.requires.shape.id.sized)) (sym c.requires.moves.old.sized)
    (shape_later _ _ _ c.args.new_bits c.args.old_bits c.args.slots.now g.later c.requires.shape)

pub next_slots-requires-clause-moves : goal.next_slots-requires-clause-moves
next_slots-requires-clause-moves c =
    let g = adds_adds _ _ _ (adds_adds _ _ _ c.in_ok-choice.ensures.adds c.in_ok-passes.ensures.adds) c.in_ok-old.ensures.adds in
    moves_of _ _ _ c.args.old_bits _ c.args.moves.now refl (sym c.requires.moves.old.sized) (moves_later _ _ _ c.args.old_bits c.args.moves.now g.later c.requires.moves)

pub next_slots-requires-clause-bits : goal.next_slots-requires-clause-bits
next_slots-requires-clause-bits c =
    (bit_adds _ _ c.in_ok-choice.choice.idle (adds_adds _ _ _ c.in_ok-passes.ensures.adds c.in_ok-old.ensures.adds) c.in_ok-choice.ensures.bits.0, bit_adds _ _ c.in_ok-passes.passes c.in_ok-old.ensures.adds c.in_ok-passes.ensures.bit)

pub next_slots-requires-clause-id : goal.next_slots-requires-clause-id
next_slots-requires-clause-id c = wire_adds _ _ c.in_ok-choice.choice.id (adds_adds _ _ _ c.in_ok-passes.ensures.adds c.in_ok-old.ensures.adds) c.in_ok-choice.ensures.wire.wire

pub next_slots-requires-clause-idle : goal.next_slots-requires-clause-idle
next_slots-requires-clause-idle c = tells_adds _ _ c.in_ok-choice.choice.idle _ (adds_adds _ _ _ c.in_ok-passes.ensures.adds c.in_ok-old.ensures.adds) c.in_ok-choice.ensures.idle

pub next_slots-requires-clause-passes : goal.next_slots-requires-clause-passes
next_slots-requires-clause-passes c =
    tells_adds _ _ c.in_ok-passes.passes _ c.in_ok-old.ensures.adds
    (pass_is _ _ c.args.slots.now c.args.moves.now c.in_ok-choice.choice.idle c.in_ok-choice.choice.some c.in_ok-passes.passes c.in_ok-passes.ensures.adds c.in_ok-choice.ensures.idle c.in_ok-choice.ensures.some c.in_ok-passes.ensures.tells)

pub next_slots-requires-clause-chosen : goal.next_slots-requires-clause-chosen
next_slots-requires-clause-chosen c = means_adds _ _ c.in_ok-choice.choice.id _ (adds_adds _ _ _ c.in_ok-passes.ensures.adds c.in_ok-old.ensures.adds) c.in_ok-choice.ensures.id

pub returns-clause-adds : goal.returns-clause-adds
returns-clause-adds c = adds_adds _ _ _ (adds_adds _ _ _ (adds_adds _ _ _ c.in_ok-choice.ensures.adds c.in_ok-passes.ensures.adds) c.in_ok-old.ensures.adds) c.in_ok-next.ensures.adds

pub returns-clause-wires : goal.returns-clause-wires
returns-clause-wires c =
    let g3 = c.in_ok-next.ensures.adds in
    let g2 = adds_adds _ _ _ c.in_ok-old.ensures.adds g3 in
    let g1 = adds_adds _ _ _ c.in_ok-passes.ensures.adds g2 in
    record {
      passes = bit_adds _ _ c.in_ok-passes.passes g2 c.in_ok-passes.ensures.bit;
      id = record { wire = wire_adds _ _ c.in_ok-choice.choice.id g1 c.in_ok-choice.ensures.wire.wire; sized = c.in_ok-choice.ensures.wire.sized ∙ c.requires.shape.id.sized };
      old = record { wire = wire_adds _ _ c.in_ok-old.old g3 c.in_ok-old.ensures.wire.0; sized = c.in_ok-old.ensures.wire.1 };
    }

pub returns-clause-tell : goal.returns-clause-tell
returns-clause-tell c =
    let g3 = c.in_ok-next.ensures.adds in
    let g2 = adds_adds _ _ _ c.in_ok-old.ensures.adds g3 in
    let g1 = adds_adds _ _ _ c.in_ok-passes.ensures.adds g2 in
    tell_all _ _ _ _ c.args.slots.now c.args.moves.now c.in_ok-passes.passes c.in_ok-choice.choice.id c.in_ok-old.old c.as_slice.result.now g1.later g2.later g3.later c.in_ok-choice.ensures.id
    (pass_is _ _ c.args.slots.now c.args.moves.now c.in_ok-choice.choice.idle c.in_ok-choice.choice.some c.in_ok-passes.passes c.in_ok-passes.ensures.adds c.in_ok-choice.ensures.idle c.in_ok-choice.ensures.some c.in_ok-passes.ensures.tells)
    c.as_slice.ensures c.in_ok-old.ensures.value
