use Rattle.std.proofs.Common.{◌≡◌, drop}
use Rattle.std.specs.List.{list_any}
use Rattle.dip_sets.specs.Sets.{InSome, is_in}
use Rattle.tl_params.proofs.ports.holds.Given as goal

abbrev pub invariant-loop-set : goal.invariant-loop-set
invariant-loop-set l =
    (list_any (λ s. is_in s l.address) (drop l.set-index l.slave.addresses) ≡ list_any (λ s. is_in s l.address) l.slave.addresses)
    × (InSome l.slave.addresses l.address → InSome (drop l.set-index l.slave.addresses) l.address)
