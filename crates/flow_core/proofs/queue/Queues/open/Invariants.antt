use Rattle.std.proofs.Common.{◌≡◌, [], replicate, ◌≤◌}
use Rattle.flow_core.proofs.queue.Queues.open.Given as goal

abbrev pub invariant-loop : goal.invariant-loop
invariant-loop g l = (l.all.items ≡ replicate l.counter []) × (l.counter ≤ l.edges)
