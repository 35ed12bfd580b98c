use Rattle.std.proofs.Common.{◌≡◌, length}
use Rattle.net_build.specs.Registers.{AreUndriven, AreWires, numbers}
use Rattle.net_build.specs.Values.{Opens}
use Rattle.net_build.proofs.builder.Builder.registers.Given as goal

abbrev pub invariant-loop-width : goal.invariant-loop-width
invariant-loop-width l = record {
  opens : Opens l.fn.self l.self (numbers l.registers);
  long : length l.registers ≡ l.width-index;
  wires : AreWires l.self l.widths l.registers;
  undriven : AreUndriven l.self l.registers;
}
