use Rattle.std.proofs.Common.{◌≡◌, ◌++◌, ◌+◌, drop}
use Rattle.ver_text.specs.Spelling as spec
use Rattle.ver_text.proofs.printer.add_updates.Given as goal

abbrev pub invariant-loop-reg : goal.invariant-loop-reg
invariant-loop-reg l = record {
  at : l.number ≡ l.initial.number + l.reg-index;
  text : l.text ++ spec.lines (spec.updates l.netlist l.number (drop l.reg-index l.regs)) ≡ l.initial.text ++ spec.lines (spec.updates l.netlist l.initial.number l.regs);
}
