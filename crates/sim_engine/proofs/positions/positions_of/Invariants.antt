use Rattle.std.proofs.Common.{◌≡◌, ℕ, ◌<◌, length, get_or}
use Rattle.sim_engine.proofs.positions.positions_of.Given as goal

abbrev pub invariant-loop-at : goal.invariant-loop-at
invariant-loop-at l = record {
  long : length l.positions.items ≡ length l.netlist.cells;
  right : (row d : ℕ) → row < l.at → get_or l.positions.items (get_or l.order row d) 0 ≡ row;
}
