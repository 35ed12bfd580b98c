use Rattle.std.proofs.Common.{◌≡◌, ◌++◌, drop}
use Rattle.ver_text.specs.Spelling as spec
use Rattle.net_cells.specs.Rules.{widths}
use Rattle.ver_text.proofs.printer.add_outputs.Given as goal

abbrev pub invariant-loop-port : goal.invariant-loop-port
invariant-loop-port l = l.text ++ spec.lines (spec.output_parts (widths l.netlist) (drop l.port-index l.outputs)) ≡ l.initial.text ++ spec.lines (spec.output_parts (widths l.netlist) l.outputs)
