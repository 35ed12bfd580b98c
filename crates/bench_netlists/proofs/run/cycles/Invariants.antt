use Rattle.std.proofs.Common.{◌≡◌, length}
use Rattle.bench_netlists.proofs.run.cycles.Given as goal

abbrev pub invariant-loop : goal.invariant-loop
invariant-loop l = record {
  input : length l.engine.netlist.inputs ≡ 1;
  output : length l.engine.netlist.outputs ≡ 1;
}
