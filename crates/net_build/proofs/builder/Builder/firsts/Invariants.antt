use Rattle.std.proofs.Common.{◌≡◌, ◌++◌, ◌||◌, drop, length}
use Rattle.std.specs.List.{list_any}
use Rattle.net_build.specs.Built.{IsBit}
use Rattle.net_build.specs.Bits.{Always, AreBits, highs}
use Rattle.net_build.specs.Folds.{firsts_of}
use Rattle.net_build.specs.Values.{Adds, high}
use Rattle.net_build.proofs.builder.Builder.firsts.Given as goal

abbrev pub invariant-loop-wire : goal.invariant-loop-wire
invariant-loop-wire l = record {
  adds : Adds l.fn.self l.self;
  bit : IsBit l.self l.seen;
  long : length l.firsts ≡ l.wire-index;
  bits : AreBits l.self l.firsts;
  some : Always l.self (λ v. (high v l.seen || list_any (high v) (drop l.wire-index l.wires)) ≡ (high v l.fn.before || list_any (high v) l.wires));
  rest : Always l.self (λ v. highs v l.firsts ++ firsts_of (high v l.seen) (highs v (drop l.wire-index l.wires)) ≡ firsts_of (high v l.fn.before) (highs v l.wires));
}
