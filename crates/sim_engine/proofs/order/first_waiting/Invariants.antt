use Rattle.std.proofs.Common.{ℕ, ◌<◌, get_or}
use Rattle.sim_engine.specs.Walks.{IsDone}
use Rattle.sim_engine.proofs.order.first_waiting.Given as goal

abbrev pub invariant-loop-net : goal.invariant-loop-net
invariant-loop-net l = (k : ℕ) (d : ℕ) → k < l.net-index → IsDone l.first l.marks (get_or l.nets k d)
