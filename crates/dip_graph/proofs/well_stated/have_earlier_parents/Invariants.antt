use Rattle.std.proofs.Common.{◌+◌, drop}
use Rattle.std.specs.Prelude.{◌↔◌}
use Rattle.dip_graph.specs.WellStated.{HaveEarlierParents}
use Rattle.dip_graph.proofs.well_stated.have_earlier_parents.Given as goal

abbrev pub invariant-loop-place : goal.invariant-loop-place
invariant-loop-place l = HaveEarlierParents (l.number + l.place) (drop l.place l.modules) ↔ HaveEarlierParents l.number l.modules
