use Rattle.std.proofs.Common.{take}
use Rattle.net_build.specs.Registers.{DrivesAll, numbers}
use Rattle.net_build.proofs.DrivenLists.{AreUndrivenFrom, FirstsTake}
use Rattle.net_build.proofs.builder.Builder.drive_all.Given as goal

abbrev pub invariant-loop-place : goal.invariant-loop-place
invariant-loop-place l = record {
  drives : DrivesAll l.fn.self l.self (numbers (take l.place l.registers));
  undriven : AreUndrivenFrom l.self l.place l.registers;
  taken : FirstsTake l.self l.place l.registers l.nexts;
}
