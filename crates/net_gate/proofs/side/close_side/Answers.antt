use Rattle.std.proofs.Common.{◌∙◌, length}
use Rattle.net_gate.proofs.OpenedSides.{ready_all, registers_long}
use Rattle.net_gate.proofs.side.close_side.Goals as goal

pub drive_registers-requires-clause-nexts : goal.drive_registers-requires-clause-nexts
drive_registers-requires-clause-nexts c = rw (c.as_slice.ensures ∙ c.in_ok-registers.ensures, c.as_slice-2.ensures ∙ c.in_ok-nexts.ensures) (ready_all _ c.args.round (length c.args.now.now.mine) c.args.now.now.left.width c.args.now.now c.args.next.now c.requires.now c.requires.next)

pub drive_registers-requires-clause-long : goal.drive_registers-requires-clause-long
drive_registers-requires-clause-long c = rw (c.as_slice.ensures ∙ c.in_ok-registers.ensures, c.as_slice-2.ensures ∙ c.in_ok-nexts.ensures) (registers_long _ c.args.round (length c.args.now.now.mine) c.args.now.now.left.width c.args.now.now c.args.next.now c.requires.now c.requires.next)
