use Rattle.std.proofs.Common.{◌≡◌, length, take}
use Rattle.net_build.specs.Bits.{Always, wire_values}
use Rattle.net_build.specs.Registers.{AreWires}
use Rattle.net_build.specs.Values.{Adds}
use Rattle.net_queue.specs.Rows.{row_widths}
use Rattle.net_queue.proofs.Chosen.{picked}
use Rattle.net_queue.proofs.rows.mux_row.Given as goal

abbrev pub invariant-loop-place : goal.invariant-loop-place
invariant-loop-place l = record {
  adds : Adds l.fn.builder l.builder;
  long : length l.out ≡ l.place;
  wires : AreWires l.builder (row_widths l.these) l.out;
  values : Always l.builder (λ v. wire_values v l.out ≡ take l.place (picked v l.pick l.these l.those));
}
