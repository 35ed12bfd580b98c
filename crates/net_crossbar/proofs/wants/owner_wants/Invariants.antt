use Rattle.std.proofs.Common.{◌≡◌, [], length, get_or}
use Rattle.net_build.specs.Columns.{no_wire}
use Rattle.net_build.specs.Values.{Adds}
use Rattle.net_crossbar.specs.Places.{AllAt}
use Rattle.net_crossbar.specs.Wants.{AsksOwner}
use Rattle.net_crossbar.proofs.wants.owner_wants.Given as goal

abbrev pub invariant-loop-place : goal.invariant-loop-place
invariant-loop-place l = record {
  adds : Adds l.fn.builder l.builder;
  long : length l.out ≡ l.place;
  asks : AllAt (λ k w. AsksOwner l.builder l.slaves (get_or l.valids k no_wire) (get_or (get_or l.rows k []) 4 no_wire) w) l.out;
}
