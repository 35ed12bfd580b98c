use Rattle.std.proofs.Common.{◌≡◌, length}
use Rattle.net_crossbar.specs.Heads.{IsWidest}
use Rattle.net_crossbar.specs.Places.{AllAt}
use Rattle.net_crossbar.proofs.fitted.widest_row.Given as goal

abbrev pub invariant-loop-place : goal.invariant-loop-place
invariant-loop-place l = record {
  long : length l.out ≡ l.place;
  widest : AllAt (λ place w. IsWidest l.rows place w) l.out;
}
