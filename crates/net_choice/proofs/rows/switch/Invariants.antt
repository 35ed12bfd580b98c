use Rattle.std.proofs.Common.{◌≡◌, ◌++◌, drop, length, if◌then◌else◌}
use Rattle.net_build.specs.Values.{Adds, high}
use Rattle.net_build.specs.Bits.{Always, AreBits, highs}
use Rattle.net_choice.proofs.rows.switch.Given as goal

abbrev pub invariant-loop-place : goal.invariant-loop-place
invariant-loop-place l = record {
  adds : Adds l.fn.builder l.builder;
  long : length l.out ≡ l.place;
  bits : AreBits l.builder l.out;
  rest : Always l.builder (λ v. highs v l.out ++ (if high v l.pick then highs v (drop l.place l.xs) else highs v (drop l.place l.ys)) ≡ (if high v l.pick then highs v l.xs else highs v l.ys));
}
