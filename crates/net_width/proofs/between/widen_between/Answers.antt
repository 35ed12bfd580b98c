use Rattle.std.proofs.Common.{List, length, ap, sym, subst, ◌∙◌}
use Rattle.net_build.specs.declared.types.Wire.{Wire}
use Rattle.net_build.specs.Registers.{AreDistinct, AreUndriven, MayDrive, numbers}
use Rattle.net_build.proofs.OpenedLists.{all_distinct, all_undriven_adds}
use Rattle.net_build.proofs.Steps.{later_later}
use Rattle.net_table.specs.Tables.{AreEntries}
use Rattle.net_table.proofs.Indexed.{entries_later}
use Rattle.net_width.proofs.Around.{can_later, may_drive, opened_then, widened_is}
use Rattle.net_width.proofs.between.widen_between.Goals as goal

pub around-requires-clause-can : goal.around-requires-clause-can
around-requires-clause-can c = can_later _ _ c.args.count _ c.args.buses c.args.widens c.args.above.now c.args.below.now _ c.in_ok-entries.ensures.opens (ap length c.as_slice.ensures ∙ c.in_ok-entries.ensures.table.long) c.requires.can

pub around-requires-clause-entries : goal.around-requires-clause-entries
around-requires-clause-entries c = subst (λ (ws : List Wire). AreEntries c.open_table.new.builder 4 ws) (sym c.as_slice.ensures) c.in_ok-entries.ensures.table.entries

pub drive_registers-requires-clause-distinct : goal.drive_registers-requires-clause-distinct
drive_registers-requires-clause-distinct c = subst AreDistinct (sym c.as_slice-2.ensures) (all_distinct _ _ c.in_ok-entries.entries c.in_ok-entries.ensures.opens)

pub drive_registers-requires-clause-undriven : goal.drive_registers-requires-clause-undriven
drive_registers-requires-clause-undriven c =
    subst (λ (ws : List Wire). AreUndriven c.around.new.builder ws) (sym c.as_slice-2.ensures) (all_undriven_adds _ _ c.in_ok-entries.entries c.in_ok-cycle.ensures.adds c.in_ok-entries.ensures.table.undriven)

pub drive_registers-requires-clause-long : goal.drive_registers-requires-clause-long
drive_registers-requires-clause-long c = ap length c.as_slice-3.ensures ∙ c.in_ok-cycle.ensures.long ∙ ap length (c.as_slice.ensures ∙ sym c.as_slice-2.ensures)

pub drive_registers-requires-clause-nexts : goal.drive_registers-requires-clause-nexts
drive_registers-requires-clause-nexts c =
    subst (λ (ws : List Wire). MayDrive c.around.new.builder ws c.as_slice-3.result.now) (sym c.as_slice-2.ensures)
    (subst (λ (ws : List Wire). MayDrive c.around.new.builder c.in_ok-entries.entries ws) (sym c.as_slice-3.ensures)
    (may_drive _ 4 c.in_ok-entries.entries c.in_ok-cycle.cycle.nexts (c.in_ok-cycle.ensures.long ∙ ap length c.as_slice.ensures) (entries_later _ _ 4 c.in_ok-entries.entries c.in_ok-cycle.ensures.adds.later c.in_ok-entries.ensures.table.entries) c.in_ok-cycle.ensures.nexts))

pub returns-clause-adds : goal.returns-clause-adds
returns-clause-adds c =
    opened_then _ _ _ _ (numbers c.in_ok-entries.entries) c.in_ok-entries.ensures.opens c.in_ok-cycle.ensures.adds
    (rw (sym c.as_slice-2.ensures) c.in_ok-drive_registers.ensures.drives)

pub returns-clause-widened : goal.returns-clause-widened
returns-clause-widened c =
    let l2 = c.in_ok-drive_registers.ensures.drives.later in
    let l1 = later_later _ _ _ c.in_ok-cycle.ensures.adds.later l2 in
    widened_is _ _ _ _ c.args.count c.args.above.now c.args.below.now c.in_ok-cycle.cycle c.in_ok-entries.entries c.as_slice.result.now c.as_slice-3.result.now l1 l2 c.as_slice.ensures c.in_ok-entries.ensures.table.long
    c.in_ok-entries.ensures.begins c.in_ok-cycle.ensures.cycle c.in_ok-cycle.ensures.wires c.as_slice-3.ensures (rw (c.as_slice.ensures ∙ sym c.as_slice-2.ensures) c.in_ok-drive_registers.ensures.becomes)
