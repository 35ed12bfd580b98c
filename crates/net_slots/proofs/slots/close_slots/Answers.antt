use Rattle.std.proofs.Common.{◌∙◌}
use Rattle.net_slots.proofs.OpenedSlots.{slots_long, slots_may}
use Rattle.net_slots.proofs.slots.close_slots.Goals as goal

pub drive_registers-requires-clause-nexts : goal.drive_registers-requires-clause-nexts
drive_registers-requires-clause-nexts c = rw (c.as_slice.ensures ∙ c.in_ok-registers.ensures, c.as_slice-2.ensures ∙ c.in_ok-nexts.ensures) (slots_may _ _ c.args.new_bits c.args.old_bits c.args.now.now c.args.next.now c.requires.now c.requires.next)

pub drive_registers-requires-clause-long : goal.drive_registers-requires-clause-long
drive_registers-requires-clause-long c = rw (c.as_slice.ensures ∙ c.in_ok-registers.ensures, c.as_slice-2.ensures ∙ c.in_ok-nexts.ensures) (slots_long _ _ c.args.new_bits c.args.old_bits c.args.now.now c.args.next.now c.requires.now c.requires.next)
