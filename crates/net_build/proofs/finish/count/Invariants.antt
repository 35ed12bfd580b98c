use Rattle.std.proofs.Common.{◌≡◌, take}
use Rattle.net_build.specs.Numbering.{wire_counts}
use Rattle.net_build.proofs.finish.count.Given as goal

abbrev pub invariant-loop-wire : goal.invariant-loop-wire
invariant-loop-wire l = l.counts ≡ wire_counts (take l.wire-index l.made)
