use Rattle.std.proofs.Common.{◌≡◌, length}
use Rattle.net_build.specs.Registers.{AreWires}
use Rattle.net_build.specs.Values.{Adds}
use Rattle.net_queue.specs.Rows.{row_widths}
use Rattle.net_queue.proofs.Fitted.{AllKeep}
use Rattle.net_queue.proofs.fit.fit_row.Given as goal

abbrev pub invariant-loop-place : goal.invariant-loop-place
invariant-loop-place l = record {
  adds : Adds l.fn.builder l.builder;
  long : length l.out ≡ l.place;
  wires : AreWires l.builder (row_widths l.like) l.out;
  keeps : AllKeep l.builder l.wires l.out;
}
