use Rattle.std.proofs.Common.{◌≡◌, length}
use Rattle.net_build.specs.Registers.{AreUndriven, numbers}
use Rattle.net_build.specs.Values.{Opens}
use Rattle.net_table.specs.Tables.{AreEntries}
use Rattle.net_table.proofs.table.open_registers.Given as goal

abbrev pub invariant-loop-place : goal.invariant-loop-place
invariant-loop-place l = record {
  opens : Opens l.fn.builder l.builder (numbers l.out);
  long : length l.out ≡ l._place;
  entries : AreEntries l.builder l.width l.out;
  undriven : AreUndriven l.builder l.out;
}
