use Rattle.std.proofs.Common.{◌≡◌, take, map}
use Rattle.tl_rules.specs.Fragments.{cut_master}
use Rattle.tl_rules.proofs.fragmenter.cut_masters.Given as goal

abbrev pub invariant-loop-master : goal.invariant-loop-master
invariant-loop-master l = l.cut ≡ map (cut_master l.fragments.piece) (take l.master-index l.masters)
