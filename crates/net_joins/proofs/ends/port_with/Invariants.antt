use Rattle.std.proofs.Common.{ℕ, ◌<◌}
use Rattle.net_joins.specs.Finding.{PortHas}
use Rattle.net_joins.proofs.ends.port_with.Given as goal

abbrev pub invariant-loop-port : goal.invariant-loop-port
invariant-loop-port l = record {
  none : (port : ℕ) → port < l.port → PortHas l.ports l.edge port → ⊥;
}
