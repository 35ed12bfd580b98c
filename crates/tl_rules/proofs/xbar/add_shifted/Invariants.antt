use Rattle.std.proofs.Common.{◌≡◌, ◌++◌, take, map}
use Rattle.tl_rules.specs.Crossbars.{shifted_master}
use Rattle.tl_rules.proofs.xbar.add_shifted.Given as goal

abbrev pub invariant-loop-master : goal.invariant-loop-master
invariant-loop-master l = l.all ≡ l.fn.all ++ map (shifted_master l.by) (take l.master-index l.port.masters)
