use Rattle.std.proofs.Common.{◌≡◌, drop}
use Rattle.dip_lists.specs.First.{first, places}
use Rattle.dip_checks.specs.Checks.{bind_is_turned}
use Rattle.dip_checks.proofs.graph.turned_bind.Given as goal

abbrev pub invariant-loop-number : goal.invariant-loop-number
invariant-loop-number l = first (places (λ number b. bind_is_turned l.nodes b) l.number (drop l.number l.binds)) ≡ first (places (λ number b. bind_is_turned l.nodes b) 0 l.binds)
