use Rattle.std.proofs.Common.{◌≡◌, ◌++◌, drop}
use Rattle.tl_rules.specs.Crossbars as spec
use Rattle.tl_rules.proofs.xbar.joined_masters.Given as goal

abbrev pub invariant-loop-place : goal.invariant-loop-place
invariant-loop-place l = l.masters ++ spec.joined_masters (drop l.place l.ins) (drop l.place l.ranges) ≡ spec.joined_masters l.ins l.ranges
