use Rattle.std.proofs.Common.{◌≡◌, drop}
use Rattle.dip_checks.specs.Checks.{share_ids}
use Rattle.dip_checks.proofs.edges.share_ids.Given as goal

abbrev pub invariant-loop-place : goal.invariant-loop-place
invariant-loop-place l = share_ids (drop l.place l.masters) ≡ share_ids l.masters
