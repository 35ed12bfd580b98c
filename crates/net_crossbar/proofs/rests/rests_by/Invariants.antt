use Rattle.std.proofs.Common.{◌≡◌, [], length, get_or}
use Rattle.net_build.specs.Bits.{wire_values}
use Rattle.net_build.specs.Values.{Adds, Means}
use Rattle.net_table.specs.Tables.{AreEntries}
use Rattle.net_crossbar.specs.Places.{AllAt}
use Rattle.net_crossbar.specs.Rests.{beats_behind_head}
use Rattle.net_crossbar.proofs.rests.rests_by.Given as goal

abbrev pub invariant-loop-place : goal.invariant-loop-place
invariant-loop-place l = record {
  adds : Adds l.fn.builder l.builder;
  long : length l.out ≡ l.place;
  entries : AreEntries l.builder 8 l.out;
  tells : AllAt (λ k w. Means l.builder w (λ v. beats_behind_head l.channel l.bytes (wire_values v (get_or l.rows k [])))) l.out;
}
