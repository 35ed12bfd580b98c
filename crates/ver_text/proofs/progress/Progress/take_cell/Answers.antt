use Rattle.std.proofs.Common.{List, ℕ, ap, slice_index, ◌∙◌}
use Rattle.std.proofs.lemmas.Result.{IfOk-weaker}
use Rattle.ver_text.proofs.Steps.{cell_due}
use Rattle.ver_text.proofs.progress.Progress.take_cell.Goals as goal

pub returns : goal.returns
returns c =
    IfOk-weaker c.add_cell.result _ _
    (λ is e. e ∙ cell_due c.args.self.now c.args.form c.args.fourth.now c.args.third.now c.args.second.now c.args.last.now _ _ _ _ c.target.ensures
    c.is_numbered.ensures c.if-not-is_numbered.false (c.width_at-width.ensures ∙ ap (λ (ws : List ℕ). slice_index ws c.args.self.now.next_cell) c.as_slice.ensures) c.in_ok-op.ensures)
    c.add_cell.ensures
