use Rattle.std.proofs.Common.{◌∙◌, ℕ, sym, length, subst}
use Rattle.net_build.specs.Registers.{numbers}
use Rattle.net_build.proofs.OpenedLists.{all_distinct, all_undriven_adds}
use Rattle.net_build.proofs.Steps.{bit_later, later_later}
use Rattle.net_gate.specs.Built.{HasSideShape, registers_of}
use Rattle.net_gate.proofs.AfterGrants.{shape_adds}
use Rattle.net_gate.proofs.OpenedSides.{bits_later, opened_then, shape_own, side_is}
use Rattle.net_table.specs.Tables.{AreEntries}
use Rattle.net_table.proofs.Indexed.{entries_later}
use Rattle.net_gate.proofs.side.build_side.Goals as goal

pub around-requires-clause-bits : goal.around-requires-clause-bits
around-requires-clause-bits c =
    let l = c.in_ok-registers.ensures.opens.later in
    (bit_later _ _ c.args.ready l c.requires.bits.0, bits_later _ _ c.args.wants.now l c.requires.bits.1)

pub around-requires-clause-rests : goal.around-requires-clause-rests
around-requires-clause-rests c =
    (subst (λ (n : ℕ). AreEntries c.open_side.new.builder n c.args.rests.now) (sym c.in_ok-registers.ensures.shape.sized) (entries_later _ _ c.args.wide c.args.rests.now c.in_ok-registers.ensures.opens.later c.requires.rests.0), c.requires.rests.1)

pub around-requires-clause-shape : goal.around-requires-clause-shape
around-requires-clause-shape c = shape_own _ c.args.round _ c.args.wide c.in_ok-registers.registers c.in_ok-registers.ensures.shape

pub close_side-requires-clause-distinct : goal.close_side-requires-clause-distinct
close_side-requires-clause-distinct c = all_distinct _ _ (registers_of c.in_ok-registers.registers) c.in_ok-registers.ensures.opens

pub close_side-requires-clause-undriven : goal.close_side-requires-clause-undriven
close_side-requires-clause-undriven c = all_undriven_adds _ _ (registers_of c.in_ok-registers.registers) c.in_ok-cycle.ensures.adds c.in_ok-registers.ensures.undriven

pub close_side-requires-clause-now : goal.close_side-requires-clause-now
close_side-requires-clause-now c =
    let s = c.in_ok-registers.ensures.shape in
    let r = c.in_ok-registers.registers in
    subst (λ n. HasSideShape c.around.new.builder c.args.round n r.left.width r) (sym s.mine_long) (shape_adds _ _ c.args.round _ r.left.width r c.in_ok-cycle.ensures.adds (shape_own _ c.args.round _ c.args.wide r s))

pub close_side-requires-clause-next : goal.close_side-requires-clause-next
close_side-requires-clause-next c =
    let r = c.in_ok-registers.registers in
    subst (λ n. HasSideShape c.around.new.builder c.args.round n r.left.width c.in_ok-cycle.cycle.next) (sym c.in_ok-registers.ensures.shape.mine_long) c.in_ok-cycle.ensures.shape

pub returns-clause-adds : goal.returns-clause-adds
returns-clause-adds c = opened_then _ _ _ _ (numbers (registers_of c.in_ok-registers.registers)) c.in_ok-registers.ensures.opens c.in_ok-cycle.ensures.adds c.in_ok-close_side.ensures.drives

pub returns-clause-bits : goal.returns-clause-bits
returns-clause-bits c =
    let l = c.in_ok-close_side.ensures.drives.later in
    rw c.into_granted-granted.ensures (bit_later _ _ c.in_ok-cycle.cycle.granted.some l c.in_ok-cycle.ensures.bits.0, bits_later _ _ c.in_ok-cycle.cycle.granted.grants l c.in_ok-cycle.ensures.bits.1)

pub returns-clause-side : goal.returns-clause-side
returns-clause-side c =
    let r = c.in_ok-registers in
    let y = c.in_ok-cycle in
    let l = c.in_ok-close_side.ensures.drives.later in
    rw c.into_granted-granted.ensures (side_is c.open_side.new.builder c.around.new.builder _ c.args.round (length c.args.wants.now) c.args.wide c.args.wants.now c.args.ready c.args.rests.now r.registers y.cycle.next y.cycle.granted.grants y.cycle.granted.some
    (later_later _ _ _ y.ensures.adds.later l) l r.ensures.undriven r.ensures.shape (y.ensures.shape.mine_long ∙ sym r.ensures.shape.mine_long) y.ensures.cycle c.in_ok-close_side.ensures.becomes)
