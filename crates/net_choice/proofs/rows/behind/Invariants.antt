use Rattle.std.proofs.Common.{◌≡◌, ◌++◌, false, drop, length}
use Rattle.net_build.specs.Built.{IsBit}
use Rattle.net_build.specs.Values.{Adds, high}
use Rattle.net_build.specs.Bits.{Always, AreBits, highs}
use Rattle.net_choice.specs.Rows.{behind_of}
use Rattle.net_choice.proofs.rows.behind.Given as goal

abbrev pub invariant-loop-wire : goal.invariant-loop-wire
invariant-loop-wire l = record {
  adds : Adds l.fn.builder l.builder;
  bit : IsBit l.builder l.seen;
  long : length l.out ≡ l.wire-index;
  bits : AreBits l.builder l.out;
  rest : Always l.builder (λ v. highs v l.out ++ behind_of (high v l.seen) (highs v (drop l.wire-index l.wires)) ≡ behind_of false (highs v l.wires));
}
