use Rattle.std.proofs.Common.{◌≡◌, take}
use Rattle.net_queue.specs.Rows.{row_widths}
use Rattle.net_crossbar.proofs.fitted.widths_of.Given as goal

abbrev pub invariant-loop-place : goal.invariant-loop-place
invariant-loop-place l = record {
  sofar : l.out ≡ row_widths (take l.place l.wires);
}
