use Rattle.std.proofs.Common.{◌≡◌, ◌++◌, drop}
use Rattle.ver_text.specs.Spelling as spec
use Rattle.ver_text.proofs.printer.add_inputs.Given as goal

abbrev pub invariant-loop-port : goal.invariant-loop-port
invariant-loop-port l = l.text ++ spec.lines (spec.input_parts (drop l.port-index l.inputs)) ≡ l.initial.text ++ spec.lines (spec.input_parts l.inputs)
