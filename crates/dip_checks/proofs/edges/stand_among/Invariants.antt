use Rattle.std.proofs.Common.{drop}
use Rattle.dip_checks.specs.Rows.{StandAmong}
use Rattle.dip_checks.proofs.edges.stand_among.Given as goal

abbrev pub invariant-loop-other : goal.invariant-loop-other
invariant-loop-other l = StandAmong (drop l.found l.slaves) (drop l.other-index l.others) → StandAmong l.slaves l.others
