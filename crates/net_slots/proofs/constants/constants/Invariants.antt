use Rattle.std.proofs.Common.{◌≡◌, length, take}
use Rattle.net_build.specs.Bits.{MeansAll}
use Rattle.net_build.specs.Values.{Adds}
use Rattle.net_table.specs.Tables.{AreEntries}
use Rattle.net_slots.proofs.constants.constants.Given as goal

abbrev pub invariant-loop-place : goal.invariant-loop-place
invariant-loop-place l = record {
  adds : Adds l.fn.builder l.builder;
  long : length l.out ≡ l.place;
  entries : AreEntries l.builder l.width l.out;
  values : MeansAll l.builder l.out (λ v. take l.place l.values);
}
