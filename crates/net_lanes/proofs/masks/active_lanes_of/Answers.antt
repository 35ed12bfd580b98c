use Rattle.std.proofs.Common.{sym, subst}
use Rattle.net_build.proofs.Steps.{means_adds}
use Rattle.net_table.specs.Tables.{AreEntries}
use Rattle.net_table.proofs.Indexed.{entries_later}
use Rattle.net_lanes.proofs.Masked.{mask_apart, masks_read}
use Rattle.net_lanes.proofs.masks.active_lanes_of.Goals as goal

pub read_entry-requires-clause-entries : goal.read_entry-requires-clause-entries
read_entry-requires-clause-entries c = subst (AreEntries c.low_bits-2.new.builder c.args.width) (sym c.as_slice.ensures) (entries_later _ _ c.args.width c.in_ok-masks.masks c.in_ok-index.ensures.adds.later c.in_ok-masks.ensures.masks.entries)

pub returns-clause-value : goal.returns-clause-value
returns-clause-value c = masks_read _ _ _ c.args.width c.args.size c.args.address c.in_ok-place.place c.in_ok-index.index c.in_ok-mask.mask c.in_ok-masks.masks c.as_slice.result.now c.in_ok-index.ensures.adds c.in_ok-mask.ensures.adds (means_adds _ _ c.in_ok-place.place _ c.in_ok-masks.ensures.adds c.in_ok-place.ensures.value) c.in_ok-index.ensures.value c.in_ok-masks.ensures.masks c.as_slice.ensures c.in_ok-mask.ensures.value
    (λ v e. mask_apart c.args.width (v c.args.size.number) (v c.args.address.number) c.requires.width e)
