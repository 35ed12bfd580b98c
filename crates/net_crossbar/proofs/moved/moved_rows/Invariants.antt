use Rattle.std.proofs.Common.{◌≡◌, [], length, get_or}
use Rattle.net_build.specs.Columns.{no_wire}
use Rattle.net_build.specs.Values.{Adds}
use Rattle.net_crossbar.specs.Heads.{IsOfLength, MovesRow}
use Rattle.net_crossbar.specs.Places.{AllAt}
use Rattle.net_crossbar.proofs.moved.moved_rows.Given as goal

abbrev pub invariant-loop-place : goal.invariant-loop-place
invariant-loop-place l = record {
  adds : Adds l.fn.builder l.builder;
  long : length l.out ≡ l.place;
  rows : AllAt (λ k ws. IsOfLength l.builder 7 ws) l.out;
  first : AllAt (λ k ws. get_or ws 0 no_wire ≡ get_or (get_or l.rows k []) 0 no_wire) l.out;
  moves : AllAt (λ k ws. MovesRow l.builder 3 (get_or l.blocks k (record { prefix = 0; bits = 0 })) (get_or l.rows k []) ws) l.out;
}
