use Rattle.std.proofs.Common.{◌≡◌, length}
use Rattle.net_build.specs.Values.{Adds, Means}
use Rattle.net_table.specs.Tables.{AreEntries}
use Rattle.net_crossbar.specs.Places.{AllAt}
use Rattle.net_crossbar.specs.Rests.{data_behind, rest_bits}
use Rattle.net_crossbar.proofs.rests.rest_table.Given as goal

abbrev pub invariant-loop-size : goal.invariant-loop-size
invariant-loop-size l = record {
  adds : Adds l.fn.builder l.builder;
  long : length l.out ≡ l.size;
  entries : AreEntries l.builder rest_bits l.out;
  tells : AllAt (λ size w. Means l.builder w (λ v. data_behind l.bytes size)) l.out;
}
