use Rattle.std.proofs.Common.{◌≡◌, ◌++◌, drop, map}
use Rattle.dip_negotiate.specs.Demands.{first_at, first_shares}
use Rattle.dip_negotiate.proofs.turns.first_shares.Given as goal

abbrev pub invariant-loop-end : goal.invariant-loop-end
invariant-loop-end l = l.firsts ++ map (λ end. first_at end l.ends) (drop l.end-index l.ends) ≡ first_shares l.ends
