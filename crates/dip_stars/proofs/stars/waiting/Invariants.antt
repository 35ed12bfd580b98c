use Rattle.std.proofs.Common.{◌≡◌, drop, is_none}
use Rattle.dip_lists.specs.First.{first, places}
use Rattle.dip_stars.specs.Edges.{waiting}
use Rattle.dip_stars.proofs.stars.waiting.Given as goal

abbrev pub invariant-loop-number : goal.invariant-loop-number
invariant-loop-number l = first (places (λ number c. is_none c.number) l.number (drop l.number l.counts)) ≡ first (waiting l.counts)
