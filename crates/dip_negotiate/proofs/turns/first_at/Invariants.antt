use Rattle.std.proofs.Common.{◌≡◌, ◌+◌, drop}
use Rattle.dip_negotiate.specs.Demands.{first_at}
use Rattle.dip_negotiate.proofs.turns.first_at.Given as goal

abbrev pub invariant-loop-place : goal.invariant-loop-place
invariant-loop-place l = l.place + first_at l.end (drop l.place l.ends) ≡ first_at l.end l.ends
