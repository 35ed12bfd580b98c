use Rattle.std.proofs.Common.{◌≡◌, drop, map}
use Rattle.net_cells.specs.declared.netlist.OutPort.{OutPort}
use Rattle.net_cells.specs.NameTables.{are_new, number_in}
use Rattle.net_cells.proofs.rules.are_new_outputs.Given as goal

abbrev pub invariant-loop-port : goal.invariant-loop-port
invariant-loop-port l =
    are_new (number_in l.table) (map (λ (p : OutPort). p.name) (drop l.port-index l.outputs)) ≡ are_new (number_in l.initial.table) (map (λ (p : OutPort). p.name) l.outputs)
