use Rattle.std.proofs.Common.{◌≡◌, replicate, ◌≤◌}
use Rattle.flow_core.specs.Leaves.{open_gate}
use Rattle.flow_core.proofs.locks.open_gates.Given as goal

abbrev pub invariant-loop : goal.invariant-loop
invariant-loop l = (l.gates ≡ replicate l.counter open_gate) × (l.counter ≤ l.count)
