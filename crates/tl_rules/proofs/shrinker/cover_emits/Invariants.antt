use Rattle.std.proofs.Common.{◌≡◌, drop}
use Rattle.tl_rules.specs.Shrinks as spec
use Rattle.tl_rules.proofs.shrinker.cover_emits.Given as goal

abbrev pub invariant-loop-master : goal.invariant-loop-master
invariant-loop-master l = spec.cover_emits l.cover (drop l.master-index l.masters) ≡ spec.cover_emits l.ops l.masters
