use Rattle.std.proofs.Common.{◌≡◌, ◌-◌, drop}
use Rattle.dip_checks.specs.Checks as spec
use Rattle.dip_checks.proofs.sets.neighbours_overlap.Given as goal

abbrev pub invariant-loop-place : goal.invariant-loop-place
invariant-loop-place l = spec.neighbours_overlap (drop (l.place - 1) l.sets) ≡ spec.neighbours_overlap l.sets
