use Rattle.std.proofs.Common.{◌≡◌, ◌++◌, take}
use Rattle.dip_checks.proofs.sets.add_sets.Given as goal

abbrev pub invariant-loop-set : goal.invariant-loop-set
invariant-loop-set l = l.all ≡ l.fn.all ++ take l.set-index l.sets
