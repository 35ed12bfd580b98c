use Rattle.std.proofs.Common.{ℕ, ◌<◌, ◌+◌}
use Rattle.net_cells.specs.Rules.{sources}
use Rattle.net_cells.specs.Loops.{DependsOn}
use Rattle.sim_engine.proofs.loops.least_loop.Given as goal

abbrev pub invariant-loop-place : goal.invariant-loop-place
invariant-loop-place l = (k : ℕ) → k < l.place → DependsOn l.netlist (sources l.netlist + k) (sources l.netlist + k) → ⊥
