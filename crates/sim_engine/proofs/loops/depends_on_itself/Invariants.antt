use Rattle.std.proofs.Common.{ℕ, ◌<◌, ◌≤◌, ◌-◌, get_or, length}
use Rattle.sim_engine.specs.Orders.{IsReady}
use Rattle.sim_engine.specs.Reached.{HasReached}
use Rattle.sim_engine.proofs.loops.depends_on_itself.Given as goal

abbrev pub invariant-loop-next : goal.invariant-loop-next
invariant-loop-next l = record {
  reaches : HasReached l.netlist l.start l.reach;
  started : IsReady l.netlist l.reach.found.items l.start;
  within : l.next ≤ length l.reach.found.items;
  ready : (k d : ℕ) → k < l.next → IsReady l.netlist l.reach.found.items (get_or l.reach.found.items k d);
}

abbrev pub decreases-loop-next : goal.decreases-loop-next
decreases-loop-next l = length l.netlist.cells - l.next
