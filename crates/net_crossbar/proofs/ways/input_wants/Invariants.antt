use Rattle.std.proofs.Common.{◌≡◌, length, get_or}
use Rattle.net_build.specs.Values.{Adds}
use Rattle.net_crossbar.specs.Places.{AllAt}
use Rattle.net_crossbar.specs.Puts.{AskRange}
use Rattle.net_crossbar.proofs.ways.input_wants.Given as goal

abbrev pub invariant-loop-place : goal.invariant-loop-place
invariant-loop-place l = record {
  adds : Adds l.fn.builder l.builder;
  long : length l.out ≡ l.place;
  asks : AllAt (λ k ws. AskRange l.builder l.valids l.rows (get_or l.blocks k (record { prefix = 0; bits = 0 })) ws) l.out;
}
