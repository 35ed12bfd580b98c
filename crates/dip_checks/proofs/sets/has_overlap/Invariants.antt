use Rattle.std.proofs.Common.{◌≡◌, drop}
use Rattle.dip_checks.specs.Checks as spec
use Rattle.dip_checks.proofs.sets.has_overlap.Given as goal

abbrev pub invariant-loop-place : goal.invariant-loop-place
invariant-loop-place l = spec.has_overlap (drop l.place l.sets) ≡ spec.has_overlap l.sets
