use Rattle.std.proofs.Common.{◌≡◌, replicate, None}
use Rattle.dip_negotiate.proofs.kept.nothing.Given as goal

abbrev pub invariant-loop-edge : goal.invariant-loop-edge
invariant-loop-edge g l = l.ports.items ≡ replicate l._edge None
