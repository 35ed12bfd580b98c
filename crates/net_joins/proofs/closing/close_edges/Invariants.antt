use Rattle.std.proofs.Common.{◌≡◌, drop}
use Rattle.net_build.specs.Built.{inputs, undriven}
use Rattle.net_build.specs.Registers.{numbers}
use Rattle.net_build.specs.Values.{Later}
use Rattle.net_leaves.specs.OpenEdges.{all_registers}
use Rattle.net_joins.specs.Closing.{AreClosed}
use Rattle.net_joins.proofs.closing.close_edges.Given as goal

abbrev pub invariant-loop-edge : goal.invariant-loop-edge
invariant-loop-edge l = record {
  later : Later l.fn.builder l.builder;
  no_input : inputs l.builder ≡ inputs l.fn.builder;
  no_output : l.builder.outputs ≡ l.fn.builder.outputs;
  left : undriven l.builder ≡ numbers (all_registers (drop l.edge l.edges));
  closed : AreClosed l.builder l.plan l.edges l.leaves l.sources l.sinks l.edge;
}
