use Rattle.std.proofs.Common.{◌≡◌, length, take}
use Rattle.net_build.specs.Bits.{AreBits, TellsAll}
use Rattle.net_build.specs.Values.{Adds}
use Rattle.net_slots.proofs.FirstFree.{frees_of}
use Rattle.net_slots.proofs.lowest.inverses.Given as goal

abbrev pub invariant-loop-place : goal.invariant-loop-place
invariant-loop-place l = record {
  adds : Adds l.fn.builder l.builder;
  long : length l.out ≡ l.place;
  bits : AreBits l.builder l.out;
  tells : TellsAll l.builder l.out (λ v. take l.place (frees_of v l.wires));
}
