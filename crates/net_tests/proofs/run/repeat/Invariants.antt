use Rattle.std.proofs.Common.{◌≡◌, length}
use Rattle.net_cells.specs.Values.{AreInputs}
use Rattle.net_tests.proofs.run.repeat.Given as goal

abbrev pub invariant-loop : goal.invariant-loop
invariant-loop l = record {
  inputs : AreInputs l.engine.netlist l.inputs;
  output : length l.engine.netlist.outputs ≡ 1;
  shown : length l.outputs ≡ 1;
}
