use Rattle.std.proofs.Common.{◌≡◌, ◌≢◌, ℕ, ◌<◌, []}
use Rattle.sim_engine.specs.declared.order.Mark.TheVariants.{New}
use Rattle.sim_engine.specs.Walks.{Stands, mark_at}
use Rattle.sim_engine.proofs.order.order_from.Given as goal

abbrev pub invariant-loop-root : goal.invariant-loop-root
invariant-loop-root l = record {
  stands : Stands l.netlist l.walk;
  idle : l.walk.stack.items ≡ [];
  found : (place : ℕ) → place < l.root → mark_at l.walk.marks.items place ≢ New;
}
