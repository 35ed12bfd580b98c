use Rattle.std.proofs.Common.{◌≡◌, map, take}
use Rattle.net_cells.specs.declared.netlist.Port.{Port}
use Rattle.sim_drive.proofs.room.widths_of.Given as goal

abbrev pub invariant-loop-port : goal.invariant-loop-port
invariant-loop-port l = l.widths.items ≡ map (λ (port : Port). port.width) (take l.port-index l.ports)
