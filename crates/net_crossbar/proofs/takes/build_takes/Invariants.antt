use Rattle.std.proofs.Common.{◌≡◌, length}
use Rattle.net_build.specs.Values.{Adds}
use Rattle.net_crossbar.specs.Places.{AllAt}
use Rattle.net_crossbar.specs.Serving.{TellsTaken}
use Rattle.net_crossbar.proofs.takes.build_takes.Given as goal

abbrev pub invariant-loop-head : goal.invariant-loop-head
invariant-loop-head l = record {
  adds : Adds l.fn.builder l.builder;
  long : length l.out ≡ l.head;
  takes : AllAt (λ k w. TellsTaken l.builder l.servings k w) l.out;
}
