use Rattle.std.proofs.Common.{List, sym, subst}
use Rattle.net_build.specs.declared.types.Wire.{Wire}
use Rattle.net_build.specs.Registers.{AreWires}
use Rattle.net_build.proofs.OpenedLists.{widths_later}
use Rattle.net_build.proofs.Steps.{bit_adds, tells_adds}
use Rattle.net_queue.specs.Rows.{AreAlike, KeepsRow, row_widths}
use Rattle.net_buffer.proofs.buffer.pass.Goals as goal

pub fit_row-requires-clause-wires : goal.fit_row-requires-clause-wires
fit_row-requires-clause-wires c =
    subst (λ (ws : List Wire). AreWires c.both.new.builder (row_widths ws) ws) (sym c.as_slice.ensures)
    (widths_later _ _ _ c.args.from.now.head c.in_ok-valid.ensures.adds.later c.requires.open.0.alike.one)

pub fit_row-requires-clause-like : goal.fit_row-requires-clause-like
fit_row-requires-clause-like c =
    subst (λ (ws : List Wire). AreWires c.both.new.builder (row_widths ws) ws) (sym c.as_slice-2.ensures)
    (widths_later _ _ _ c.args.to.now.head c.in_ok-valid.ensures.adds.later c.requires.open.1.alike.one)

pub returns-clause-into : goal.returns-clause-into
returns-clause-into c = record {
  valid = bit_adds _ _ c.in_ok-valid.valid c.in_ok-items.ensures.adds c.in_ok-valid.ensures.bit;
  items = subst (λ (ws : List Wire). AreAlike c.fit_row.new.builder ws c.in_ok-items.items) c.as_slice-2.ensures c.in_ok-items.ensures.alike;
}

pub returns-clause-tells : goal.returns-clause-tells
returns-clause-tells c = tells_adds _ _ c.in_ok-valid.valid _ c.in_ok-items.ensures.adds c.in_ok-valid.ensures.tells

pub returns-clause-keeps : goal.returns-clause-keeps
returns-clause-keeps c =
    subst (λ (ws : List Wire). KeepsRow c.fit_row.new.builder ws (row_widths c.args.to.now.head) c.in_ok-items.items) c.as_slice.ensures
    (subst (λ (ws : List Wire). KeepsRow c.fit_row.new.builder c.as_slice.result.now (row_widths ws) c.in_ok-items.items) c.as_slice-2.ensures c.in_ok-items.ensures.keeps)
