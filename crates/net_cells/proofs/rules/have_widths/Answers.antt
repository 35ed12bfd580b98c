use Rattle.std.proofs.Common.{sym, ◌∙◌}
use Rattle.std.proofs.lemmas.Bool.{false≢true}
use Rattle.net_cells.proofs.Nets.{sized, sized_inputs, sized_regs, sized_cells}
use Rattle.net_cells.proofs.rules.have_widths.Goals as goal

pub returns-then-not-ports_have_widths : goal.returns-then-not-ports_have_widths
returns-then-not-ports_have_widths c =
    (λ e. absurd (false≢true e), λ h. sym c.if-not-ports_have_widths.true ∙ c.ports_have_widths.ensures.1 (rw c.as_slice.ensures (sized_inputs c.args.netlist.now h)))

pub returns-then-not-regs_have_widths : goal.returns-then-not-regs_have_widths
returns-then-not-regs_have_widths c =
    (λ e. absurd (false≢true e), λ h. sym c.if-not-regs_have_widths.true ∙ c.regs_have_widths.ensures.1 (rw c.as_slice-2.ensures (sized_regs c.args.netlist.now h)))

pub returns : goal.returns
returns c = (
  λ e. sized c.args.netlist.now
      (rw (← c.as_slice.ensures) (c.ports_have_widths.ensures.0 c.if-not-ports_have_widths.false))
      (rw (← c.as_slice-2.ensures) (c.regs_have_widths.ensures.0 c.if-not-regs_have_widths.false))
      (rw (← c.as_slice-3.ensures) (c.cells_have_widths.ensures.0 e)),
  λ h. c.cells_have_widths.ensures.1 (rw c.as_slice-3.ensures (sized_cells c.args.netlist.now h)),
)
