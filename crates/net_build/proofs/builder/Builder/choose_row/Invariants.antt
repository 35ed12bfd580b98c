use Rattle.std.proofs.Common.{◌≡◌, ◌++◌, drop, length, map}
use Rattle.net_build.specs.Bits.{Always, highs, row_picked, wire_values}
use Rattle.net_build.specs.Registers.{AreWires}
use Rattle.net_build.specs.Values.{Adds}
use Rattle.net_build.proofs.builder.Builder.choose_row.Given as goal

abbrev pub invariant-loop-place : goal.invariant-loop-place
invariant-loop-place l = record {
  adds : Adds l.fn.self l.self;
  long : length l.out ≡ l.place;
  wires : AreWires l.self l.widths l.out;
  rest : Always l.self (λ v. wire_values v l.out ++ drop l.place (row_picked (length l.widths) (highs v l.picks) (map (wire_values v) l.rows)) ≡ row_picked (length l.widths) (highs v l.picks) (map (wire_values v) l.rows));
}
