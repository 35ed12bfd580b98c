use Rattle.std.proofs.Common.{◌≡◌, ◌++◌, drop, map}
use Rattle.net_cells.specs.declared.netlist.OutPort.{OutPort}
use Rattle.sim_engine.specs.Orders.{position}
use Rattle.sim_engine.proofs.engine.shown_by.Given as goal

abbrev pub invariant-loop-port : goal.invariant-loop-port
invariant-loop-port l =
    l.places.items ++ map (λ (o : OutPort). position l.first l.positions o.net) (drop l.port-index l.ports) ≡ map (λ (o : OutPort). position l.first l.positions o.net) l.ports
