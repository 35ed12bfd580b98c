use Rattle.std.proofs.Common.{take}
use Rattle.net_build.specs.Values.{Adds}
use Rattle.net_faces.proofs.Heads.{RowsFor, SeesSource}
use Rattle.net_faces.proofs.reads.read_sources.Given as goal

abbrev pub invariant-loop-at : goal.invariant-loop-at
invariant-loop-at l = record {
  adds : Adds l.fn.builder l.builder;
  rows : RowsFor (SeesSource l.builder l.plan l.edges) (take l.at-index l.plan.sources) l.rows;
}
