use Rattle.std.proofs.Common.{◌∙◌, List, sym, length, subst}
use Rattle.net_build.specs.declared.types.Wire.{Wire}
use Rattle.net_build.specs.Registers.{DrivesAll, numbers}
use Rattle.net_build.proofs.Folded.{bits_adds}
use Rattle.net_build.proofs.OpenedLists.{all_undriven_adds}
use Rattle.net_build.proofs.Steps.{adds_adds, bit_later, later_later}
use Rattle.net_gate.proofs.Gated.{bits_entries, free_built, rows_later}
use Rattle.net_gate.proofs.OpenedSides.{bits_later, opened_then}
use Rattle.net_gate.proofs.gate.build_free_gate.Goals as goal

pub grant_one-requires-clause-ready : goal.grant_one-requires-clause-ready
grant_one-requires-clause-ready c = bit_later _ _ c.args.ready c.in_ok-late.ensures.opens.later c.requires.bits.0

pub grant_one-requires-clause-late : goal.grant_one-requires-clause-late
grant_one-requires-clause-late c = rw c.as_slice.ensures (bits_entries _ c.in_ok-late.late c.in_ok-late.ensures.table.entries)

pub grant_one-requires-clause-may : goal.grant_one-requires-clause-may
grant_one-requires-clause-may c = bits_later _ _ c.args.wants.now c.in_ok-late.ensures.opens.later c.requires.bits.1

pub next_late-requires-clause-late : goal.next_late-requires-clause-late
next_late-requires-clause-late c = rw c.as_slice-3.ensures (bits_adds _ _ c.in_ok-late.late c.in_ok-granted.ensures.adds (bits_entries _ c.in_ok-late.late c.in_ok-late.ensures.table.entries))

pub drive_registers-requires-clause-undriven : goal.drive_registers-requires-clause-undriven
drive_registers-requires-clause-undriven c = rw c.as_slice-4.ensures (all_undriven_adds _ _ c.in_ok-late.late (adds_adds _ _ _ c.in_ok-granted.ensures.adds c.in_ok-next.ensures.adds) c.in_ok-late.ensures.table.undriven)

pub serve-requires-clause-bits : goal.serve-requires-clause-bits
serve-requires-clause-bits c =
    let l = later_later _ _ _ c.in_ok-next.ensures.adds.later c.in_ok-drive_registers.ensures.drives.later in
    (bit_later _ _ c.in_ok-granted.granted.some l c.in_ok-granted.ensures.bits.0, bits_later _ _ c.in_ok-granted.granted.grants l c.in_ok-granted.ensures.bits.1)

pub serve-requires-clause-rows : goal.serve-requires-clause-rows
serve-requires-clause-rows c =
    let l = later_later _ _ _ c.in_ok-late.ensures.opens.later (later_later _ _ _ (adds_adds _ _ _ c.in_ok-granted.ensures.adds c.in_ok-next.ensures.adds).later c.in_ok-drive_registers.ensures.drives.later) in
    rows_later _ _ c.args.widths.now c.args.rows.now l c.requires.rows.0

pub returns-clause-adds : goal.returns-clause-adds
returns-clause-adds c =
    let e = c.as_slice-4.ensures in
    adds_adds _ _ _ (opened_then _ _ _ _ (numbers c.in_ok-late.late) c.in_ok-late.ensures.opens (adds_adds _ _ _ c.in_ok-granted.ensures.adds c.in_ok-next.ensures.adds) (subst (λ (ws : List Wire). DrivesAll c.next_late.new.builder c.drive_registers.new.builder (numbers ws)) e c.in_ok-drive_registers.ensures.drives)) c.in_ok-serving.ensures.adds

pub returns-clause-gate : goal.returns-clause-gate
returns-clause-gate c = λ rest.
    free_built _ _ _ _ _ c.args.round rest c.args.wants.now c.args.ready c.args.rows.now c.in_ok-late.late c.in_ok-next.next c.as_slice.result.now c.as_slice-2.result.now c.as_slice-5.result.now c.in_ok-granted.granted c.in_ok-serving.serving (length c.args.widths.now)
    c.in_ok-granted.ensures.adds c.in_ok-next.ensures.adds c.in_ok-drive_registers.ensures.drives.later c.in_ok-serving.ensures.adds c.requires.some c.requires.rows.1 (c.in_ok-late.ensures.table.long ∙ c.late_count.ensures) c.as_slice.ensures c.as_slice-2.ensures c.as_slice-5.ensures
    c.in_ok-late.ensures.begins (rw (c.as_slice.ensures ∙ sym c.as_slice-4.ensures) c.in_ok-drive_registers.ensures.becomes)
    c.in_ok-granted.ensures.grants c.in_ok-granted.ensures.some (rw (c.as_slice.ensures ∙ sym c.as_slice-3.ensures) c.in_ok-next.ensures.tells) c.in_ok-serving.ensures.grants c.in_ok-serving.ensures.valid c.in_ok-serving.ensures.items
