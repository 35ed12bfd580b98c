use Rattle.std.proofs.Common.{ℕ, ◌<◌, get_or}
use Rattle.sim_engine.specs.Orders.{IsKnown}
use Rattle.sim_engine.specs.Reached.{Extends, HasReached}
use Rattle.sim_engine.proofs.loops.find_all.Given as goal

abbrev pub invariant-loop-net : goal.invariant-loop-net
invariant-loop-net l = record {
  reaches : HasReached l.netlist l.start l.reach;
  extends : Extends l.fn.reach.found.items l.reach.found.items;
  known : (k d : ℕ) → k < l.net-index → IsKnown l.netlist l.reach.found.items (get_or l.nets k d);
}
