use Rattle.std.proofs.Common.{◌≡◌, drop}
use Rattle.soc_stimulus.specs.Requests.{master_with}
use Rattle.soc_stimulus.proofs.edge.master_with.Given as goal

abbrev pub invariant-loop-master : goal.invariant-loop-master
invariant-loop-master l = master_with (drop l.master-index l.masters) l.id ≡ master_with l.masters l.id
