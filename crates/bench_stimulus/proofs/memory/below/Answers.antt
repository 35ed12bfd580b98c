use Rattle.std.proofs.Common.{◌+◌, subst, sym}
use Rattle.bench_stimulus.specs.Ready.{AreAllBelow}
use Rattle.bench_stimulus.proofs.Asked.{one_more}
use Rattle.bench_stimulus.proofs.memory.below.Goals as goal

pub loop-address-preserved : goal.loop-address-preserved
loop-address-preserved c =
    subst (AreAllBelow (c.loop-address.address + 1)) (sym c.in_ok-push.ensures.items)
    (one_more c.loop-address.address c.loop-address.addresses.items c.loop-address.invariant)
