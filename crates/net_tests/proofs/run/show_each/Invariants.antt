use Rattle.std.proofs.Common.{◌≡◌, length}
use Rattle.std.specs.Prelude.{All}
use Rattle.net_cells.specs.Values.{AreInputs}
use Rattle.net_tests.proofs.run.show_each.Given as goal

abbrev pub invariant-loop-inputs : goal.invariant-loop-inputs
invariant-loop-inputs l = record {
  inputs : All (AreInputs l.engine.netlist) l.cycles;
  outputs : length l.engine.netlist.outputs ≡ 3;
  shown : length l.outputs ≡ 3;
}
