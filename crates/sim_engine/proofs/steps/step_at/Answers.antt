use Rattle.std.proofs.Common.{◌≤◌, sym, subst}
use Rattle.net_cells.specs.declared.netlist.Cell.{Cell}
use Rattle.sim_engine.proofs.Rows.{narrow}
use Rattle.sim_engine.proofs.steps.step_at.Goals as goal

pub step_for-requires : goal.step_for-requires
step_for-requires c = subst (λ (x : Cell). x.width ≤ 64) (sym c.cell_at-cell.ensures) (narrow c.args.netlist.now c.requires.well c.args.place c.requires.exists)
