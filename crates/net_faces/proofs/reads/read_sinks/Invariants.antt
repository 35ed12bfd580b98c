use Rattle.std.proofs.Common.{take}
use Rattle.net_build.specs.Values.{Adds}
use Rattle.net_faces.proofs.Heads.{RowsFor, SeesSink}
use Rattle.net_faces.proofs.reads.read_sinks.Given as goal

abbrev pub invariant-loop-at : goal.invariant-loop-at
invariant-loop-at l = record {
  adds : Adds l.fn.builder l.builder;
  rows : RowsFor (SeesSink l.builder l.plan l.edges) (take l.at-index l.plan.sinks) l.rows;
}
