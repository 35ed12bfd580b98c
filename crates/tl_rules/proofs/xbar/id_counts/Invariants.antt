use Rattle.std.proofs.Common.{◌≡◌, take, map}
use Rattle.tl_rules.specs.Crossbars.{id_count}
use Rattle.tl_rules.proofs.xbar.id_counts.Given as goal

abbrev pub invariant-loop-port : goal.invariant-loop-port
invariant-loop-port l = l.counts ≡ map id_count (take l.port-index l.ins)
