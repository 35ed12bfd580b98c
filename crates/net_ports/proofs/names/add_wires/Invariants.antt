use Rattle.std.proofs.Common.{◌≡◌, ◌++◌, drop}
use Rattle.net_ports.specs.Names.{AreNamed}
use Rattle.net_ports.specs.Ports.{wires_at}
use Rattle.net_ports.proofs.names.add_wires.Given as goal

abbrev pub invariant-loop-place : goal.invariant-loop-place
invariant-loop-place l = record {
  named : AreNamed l.ports;
  ports : l.ports ++ wires_at l.at (drop l.place l.fields) (drop l.place l.widths) ≡ l.fn.ports ++ wires_at l.at l.fields l.widths;
}
