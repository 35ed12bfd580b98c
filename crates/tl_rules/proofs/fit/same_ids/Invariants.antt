use Rattle.std.proofs.Common.{◌≡◌, drop}
use Rattle.tl_params.specs.Carried.{all_zip}
use Rattle.tl_rules.specs.Fits.{has_same_ids}
use Rattle.tl_rules.proofs.fit.same_ids.Given as goal

abbrev pub invariant-loop-place : goal.invariant-loop-place
invariant-loop-place l = all_zip (has_same_ids) (drop l.place l.masters) (drop l.place l.others) ≡ all_zip (has_same_ids) l.masters l.others
