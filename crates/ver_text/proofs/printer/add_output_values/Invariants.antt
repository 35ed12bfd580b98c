use Rattle.std.proofs.Common.{◌≡◌, ◌++◌, drop}
use Rattle.ver_text.specs.Spelling as spec
use Rattle.ver_text.proofs.printer.add_output_values.Given as goal

abbrev pub invariant-loop-output : goal.invariant-loop-output
invariant-loop-output l = l.text ++ spec.lines (spec.output_values l.netlist (drop l.output-index l.outputs)) ≡ l.initial.text ++ spec.lines (spec.output_values l.netlist l.outputs)
