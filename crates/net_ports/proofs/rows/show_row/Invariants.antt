use Rattle.std.proofs.Common.{take}
use Rattle.net_ports.specs.Rows.{AddsOutputs, shown_outputs}
use Rattle.net_ports.proofs.rows.show_row.Given as goal

abbrev pub invariant-loop-place : goal.invariant-loop-place
invariant-loop-place l = AddsOutputs l.fn.builder l.builder (shown_outputs (take l.place l.ports) (take l.place l.wires))
