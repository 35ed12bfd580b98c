use Rattle.std.proofs.Common.{refl, sym, ◌∙◌}
use Rattle.net_build.specs.Registers.{numbers}
use Rattle.net_build.proofs.OpenedLists.{all_distinct, all_undriven_adds}
use Rattle.net_build.proofs.Steps.{bit_later, later_later}
use Rattle.net_slots.proofs.Cycles.{moves_later, moves_of, shape_later, sized_later, tell_later}
use Rattle.net_slots.proofs.OpenedSlots.{opened_then, slots_are}
use Rattle.net_slots.specs.SlotWires.{slot_list}
use Rattle.net_slots.proofs.slots.build_slots.Goals as goal

pub around-requires-clause-shape : goal.around-requires-clause-shape
around-requires-clause-shape c = let s = c.in_ok-slots.ensures.shape in rw s.taken.long s

pub around-requires-clause-moves : goal.around-requires-clause-moves
around-requires-clause-moves c =
    moves_of _ c.args.count _ c.args.old_bits _ c.args.moves.now (sym c.in_ok-slots.ensures.shape.taken.long) refl
    (moves_later _ _ c.args.count c.args.old_bits c.args.moves.now c.in_ok-slots.ensures.opens.later c.requires.moves)

pub close_slots-requires-clause-distinct : goal.close_slots-requires-clause-distinct
close_slots-requires-clause-distinct c = all_distinct _ _ (slot_list c.in_ok-slots.slots) c.in_ok-slots.ensures.opens

pub close_slots-requires-clause-undriven : goal.close_slots-requires-clause-undriven
close_slots-requires-clause-undriven c = all_undriven_adds _ _ (slot_list c.in_ok-slots.slots) c.in_ok-cycle.ensures.adds c.in_ok-slots.ensures.undriven

pub close_slots-requires-clause-now : goal.close_slots-requires-clause-now
close_slots-requires-clause-now c =
    let s = c.in_ok-slots.ensures.shape in
    rw s.taken.long (shape_later _ _ c.args.count c.args.new_bits c.args.old_bits c.in_ok-slots.slots c.in_ok-cycle.ensures.adds.later s)

pub returns-clause-adds : goal.returns-clause-adds
returns-clause-adds c = opened_then _ _ _ _ (numbers (slot_list c.in_ok-slots.slots)) c.in_ok-slots.ensures.opens c.in_ok-cycle.ensures.adds c.in_ok-close_slots.ensures.drives

pub returns-clause-wires : goal.returns-clause-wires
returns-clause-wires c =
    let l = c.in_ok-close_slots.ensures.drives.later in
    let w = c.in_ok-cycle.ensures.wires in
    record {
      passes = bit_later _ _ _ l w.passes;
      id = sized_later _ _ c.args.new_bits _ l w.id;
      old = sized_later _ _ c.args.old_bits _ l w.old;
    }

pub returns-clause-tell : goal.returns-clause-tell
returns-clause-tell c = tell_later _ _ c.in_ok-slots.slots c.args.moves.now c.in_ok-cycle.cycle.wires c.in_ok-close_slots.ensures.drives.later c.in_ok-cycle.ensures.tell

pub returns-clause-slots : goal.returns-clause-slots
returns-clause-slots c =
    let s = c.in_ok-slots.ensures.shape in
    let l = c.in_ok-close_slots.ensures.drives.later in
    slots_are _ _ _ c.args.count c.in_ok-slots.slots c.in_ok-cycle.cycle.next c.args.moves.now (later_later _ _ _ c.in_ok-cycle.ensures.adds.later l) l c.in_ok-slots.ensures.undriven s.taken.long s.olds.long
    c.in_ok-cycle.ensures.shape.taken.long c.in_ok-cycle.ensures.next c.in_ok-close_slots.ensures.becomes
