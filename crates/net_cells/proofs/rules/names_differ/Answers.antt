use Rattle.std.proofs.lemmas.Bool.{false≢true}
use Rattle.net_cells.proofs.NewNames.{inputs_differ, all_differ}
use Rattle.net_cells.proofs.rules.names_differ.Goals as goal

pub returns-then-not-branch : goal.returns-then-not-branch
returns-then-not-branch c = (
  λ e. absurd (false≢true e),
  λ pairs. absurd (inputs_differ c.args.netlist.now c.as_slice.result.now c.new-table.result c.in_ok-are_new_inputs.field-0 c.as_slice.ensures c.new-table.ensures
      c.in_ok-are_new_inputs.ensures.answer c.if-not-branch.true pairs),
)

pub returns : goal.returns
returns c =
    all_differ c.args.netlist.now c.as_slice.result.now c.as_slice-2.result.now c.new-table.result c.are_new_inputs.new.table c.in_ok-are_new_inputs.field-0 c.are_new_outputs.result
    c.as_slice.ensures c.as_slice-2.ensures c.new-table.ensures c.in_ok-are_new_inputs.ensures.answer c.in_ok-are_new_inputs.ensures.known c.if-not-branch.false c.are_new_outputs.ensures
