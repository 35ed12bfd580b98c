use Rattle.std.proofs.Common.{◌≡◌, length, take}
use Rattle.net_build.specs.Built.{inputs}
use Rattle.net_build.specs.Registers.{AreWires}
use Rattle.net_ports.specs.Rows.{AddsInputs, AreRead, widths_of_ports}
use Rattle.net_ports.proofs.rows.open_row.Given as goal

abbrev pub invariant-loop-port : goal.invariant-loop-port
invariant-loop-port l = record {
  adds : AddsInputs l.fn.builder l.builder (take l.port-index l.ports);
  long : length l.out ≡ l.port-index;
  wires : AreWires l.builder (widths_of_ports l.ports) l.out;
  read : AreRead l.builder (length (inputs l.fn.builder)) l.out;
}
