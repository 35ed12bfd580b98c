use Rattle.std.proofs.Common.{◌≡◌, ◌++◌, ◌+◌, drop}
use Rattle.ver_text.specs.Spelling as spec
use Rattle.ver_text.proofs.printer.add_wires.Given as goal

abbrev pub invariant-loop-cell : goal.invariant-loop-cell
invariant-loop-cell l = record {
  at : l.number ≡ l.initial.number + l.cell-index;
  text : l.text ++ spec.lines (spec.wires l.number (drop l.cell-index l.cells)) ≡ l.initial.text ++ spec.lines (spec.wires l.initial.number l.cells);
}
