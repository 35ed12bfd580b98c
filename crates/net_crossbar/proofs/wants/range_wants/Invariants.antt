use Rattle.std.proofs.Common.{◌≡◌, [], length, get_or}
use Rattle.net_build.specs.Columns.{no_wire}
use Rattle.net_build.specs.Values.{Adds}
use Rattle.net_crossbar.specs.Places.{AllAt}
use Rattle.net_crossbar.specs.Wants.{AsksRange}
use Rattle.net_crossbar.proofs.wants.range_wants.Given as goal

abbrev pub invariant-loop-place : goal.invariant-loop-place
invariant-loop-place l = record {
  adds : Adds l.fn.builder l.builder;
  long : length l.out ≡ l.place;
  asks : AllAt (λ k w. AsksRange l.builder l.block (get_or l.valids k no_wire) (get_or (get_or l.rows k []) 2 no_wire) w) l.out;
}
