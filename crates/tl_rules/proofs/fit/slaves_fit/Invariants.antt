use Rattle.std.proofs.Common.{◌≡◌, drop}
use Rattle.tl_params.specs.Carried.{all_zip, slave_fits}
use Rattle.tl_rules.proofs.fit.slaves_fit.Given as goal

abbrev pub invariant-loop-place : goal.invariant-loop-place
invariant-loop-place l = all_zip (slave_fits l.pieces) (drop l.place l.slaves) (drop l.place l.real) ≡ all_zip (slave_fits l.pieces) l.slaves l.real
