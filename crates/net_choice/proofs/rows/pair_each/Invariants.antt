use Rattle.std.proofs.Common.{◌≡◌, ◌++◌, drop, length}
use Rattle.net_build.specs.Values.{Adds}
use Rattle.net_build.specs.Bits.{Always, AreBits, highs}
use Rattle.net_choice.specs.Rows.{paired, pairs}
use Rattle.net_choice.proofs.rows.pair_each.Given as goal

abbrev pub invariant-loop-place : goal.invariant-loop-place
invariant-loop-place l = record {
  adds : Adds l.fn.builder l.builder;
  long : length l.out ≡ l.place;
  bits : AreBits l.builder l.out;
  rest : Always l.builder (λ v. highs v l.out ++ pairs (paired l.pairing) (highs v (drop l.place l.xs)) (highs v (drop l.place l.ys)) ≡ pairs (paired l.pairing) (highs v l.xs) (highs v l.ys));
}
