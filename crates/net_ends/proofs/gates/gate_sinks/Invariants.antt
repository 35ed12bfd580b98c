use Rattle.net_build.specs.Values.{Adds}
use Rattle.net_queue.specs.declared.types.EdgeWires.{EdgeWires}
use Rattle.net_ends.proofs.Gated.{AreGated}
use Rattle.net_ends.proofs.gates.gate_sinks.Given as goal

abbrev pub invariant-loop-port : goal.invariant-loop-port
invariant-loop-port l = record {
  adds : Adds l.fn.builder l.builder;
  gated : AreGated l.builder (λ (edge : EdgeWires). edge.d) (λ (edge : EdgeWires). edge.a) l.plan.sinks l.edges l.offered l.ends l.port;
}
