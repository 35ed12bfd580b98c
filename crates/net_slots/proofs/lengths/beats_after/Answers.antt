use Rattle.std.proofs.Common.{◌-◌}
use Rattle.tl_edge.specs.Beats.{data_beats}
use Rattle.net_build.proofs.Steps.{adds_adds, bit_adds, wire_adds}
use Rattle.net_slots.proofs.Ranges.{all_few, follow_beats, table_long}
use Rattle.net_slots.proofs.lengths.beats_after.Goals as goal

pub constants-requires-clause-small : goal.constants-requires-clause-small
constants-requires-clause-small c = all_few _ c.args.bus c.in_ok-counts.counts _ c.size_count.ensures.few c.in_ok-counts.ensures c.as_slice.ensures

pub read_entry-requires-clause-index : goal.read_entry-requires-clause-index
read_entry-requires-clause-index c = wire_adds _ _ c.args.size c.in_ok-table.ensures.adds c.requires.wires.1

pub read_entry-requires-clause-small : goal.read_entry-requires-clause-small
read_entry-requires-clause-small c = table_long _ _ (λ size. data_beats size c.args.bus - 1) c.in_ok-counts.counts _ c.in_ok-table.table _ c.size_count.ensures.within c.in_ok-counts.ensures c.as_slice.ensures c.in_ok-table.ensures.long c.as_slice-2.ensures

pub mux-requires-clause-pick : goal.mux-requires-clause-pick
mux-requires-clause-pick c = bit_adds _ _ c.args.carries (adds_adds _ _ _ c.in_ok-table.ensures.adds (adds_adds _ _ _ c.in_ok-rest.ensures.adds c.in_ok-none.ensures.adds)) c.requires.wires.0

pub mux-requires-clause-wires : goal.mux-requires-clause-wires
mux-requires-clause-wires c = (wire_adds _ _ c.in_ok-rest.rest c.in_ok-none.ensures.adds c.in_ok-rest.ensures.wire.0, c.in_ok-none.ensures.wire.0)

pub returns-clause-adds : goal.returns-clause-adds
returns-clause-adds c = adds_adds _ _ _ c.in_ok-table.ensures.adds (adds_adds _ _ _ c.in_ok-rest.ensures.adds (adds_adds _ _ _ c.in_ok-none.ensures.adds c.in_ok-wire.ensures.adds))

pub returns-clause-follow : goal.returns-clause-follow
returns-clause-follow c =
    follow_beats _ _ _ _ c.args.bus _ c.args.carries c.args.size c.in_ok-rest.rest c.in_ok-none.none c.in_ok-wire.wire c.in_ok-counts.counts _ c.in_ok-table.table _
    c.in_ok-rest.ensures.adds c.in_ok-none.ensures.adds c.in_ok-wire.ensures.adds
    (wire_adds _ _ c.args.size c.in_ok-table.ensures.adds c.requires.wires.1) c.size_count.ensures.all
    c.in_ok-counts.ensures c.as_slice.ensures c.in_ok-table.ensures.values c.as_slice-2.ensures c.in_ok-rest.ensures.value c.in_ok-none.ensures.value c.in_ok-wire.ensures.value
