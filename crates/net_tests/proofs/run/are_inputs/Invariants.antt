use Rattle.std.proofs.Common.{ℕ, ◌^◌, ◌<◌, get_or}
use Rattle.net_cells.specs.Rules.{width_at, widths}
use Rattle.net_tests.proofs.run.are_inputs.Given as goal

abbrev pub invariant-loop-place : goal.invariant-loop-place
invariant-loop-place l = (k : ℕ) → k < l.place → get_or l.inputs k 0 < 2 ^ width_at (widths l.netlist) k
