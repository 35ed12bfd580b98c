use Rattle.std.proofs.Common.{ℕ, ◌<◌, List, get_or}
use Rattle.net_cells.specs.Values.{AreInputs}
use Rattle.net_tests.proofs.run.are_all_inputs.Given as goal

abbrev pub invariant-loop-inputs : goal.invariant-loop-inputs
invariant-loop-inputs l = (k : ℕ) (d : List ℕ) → k < l.inputs-index → AreInputs l.netlist (get_or l.cycles k d)
