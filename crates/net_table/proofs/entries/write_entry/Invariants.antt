use Rattle.std.proofs.Common.{◌≡◌, length, take}
use Rattle.net_build.specs.Bits.{MeansAll, wire_values}
use Rattle.net_build.specs.Values.{Adds, high}
use Rattle.net_table.specs.Tables.{AreEntries, entries_written}
use Rattle.net_table.proofs.entries.write_entry.Given as goal

abbrev pub invariant-loop-place : goal.invariant-loop-place
invariant-loop-place l = record {
  adds : Adds l.fn.builder l.builder;
  long : length l.out ≡ l.place;
  entries : AreEntries l.builder l.item.width l.out;
  values : MeansAll l.builder l.out (λ v. take l.place (entries_written (high v l.write) (v l.index.number) (v l.item.number) (wire_values v l.entries)));
}
