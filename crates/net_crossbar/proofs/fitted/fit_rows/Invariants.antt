use Rattle.std.proofs.Common.{◌≡◌, [], length, get_or}
use Rattle.net_build.specs.Values.{Adds}
use Rattle.net_crossbar.specs.Heads.{IsFittedTo}
use Rattle.net_crossbar.specs.Places.{AllAt}
use Rattle.net_crossbar.proofs.fitted.fit_rows.Given as goal

abbrev pub invariant-loop-place : goal.invariant-loop-place
invariant-loop-place l = record {
  adds : Adds l.fn.builder l.builder;
  long : length l.out ≡ l.place;
  fitted : AllAt (λ k ws. IsFittedTo l.builder l.like (get_or l.rows k []) ws) l.out;
}
