use Rattle.std.proofs.Common.{ℕ, ◌^◌, ap, sym}
use Rattle.net_build.proofs.Steps.{adds_adds, wire_adds}
use Rattle.net_lanes.proofs.Tabled.{picked_means}
use Rattle.net_lanes.proofs.masks.mask_at.Goals as goal

pub read_entry-requires-clause-index : goal.read_entry-requires-clause-index
read_entry-requires-clause-index c = wire_adds _ _ c.args.place c.in_ok-masks.ensures.adds c.requires.place.0

pub returns-clause-adds : goal.returns-clause-adds
returns-clause-adds c = adds_adds _ _ _ c.in_ok-masks.ensures.adds c.in_ok-mask.ensures.adds

pub returns-clause-value : goal.returns-clause-value
returns-clause-value c = picked_means _ _ c.args.width 8 _ c.in_ok-masks.masks c.as_slice.result.now c.in_ok-mask.mask c.args.place c.in_ok-mask.ensures.adds c.in_ok-masks.ensures.masks c.as_slice.ensures (wire_adds _ _ c.args.place c.in_ok-masks.ensures.adds c.requires.place.0) (ap (λ (n : ℕ). 2 ^ n) (sym c.requires.place.1)) c.in_ok-mask.ensures.value
