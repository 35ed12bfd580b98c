use Rattle.std.proofs.Common.{arith}
use Rattle.net_build.proofs.Steps.{adds_adds, bit_adds, wire_adds}
use Rattle.net_crossbar.proofs.Counted.{index_fits, rest_tells}
use Rattle.net_crossbar.proofs.rests.rest_of.Goals as goal

pub read_entry-requires-clause-small : goal.read_entry-requires-clause-small
read_entry-requires-clause-small c = index_fits _ c.in_ok-index.index.width _ c.requires.table.long c.in_ok-index.ensures.wire.1 (omega (arith, c.max.ensures))

pub mux-requires-clause-pick : goal.mux-requires-clause-pick
mux-requires-clause-pick c = bit_adds _ _ c.args.carries (adds_adds _ _ _ (adds_adds _ _ _ c.in_ok-index.ensures.adds c.in_ok-told.ensures.adds) c.in_ok-none.ensures.adds) c.requires.carries

pub mux-requires-clause-wires : goal.mux-requires-clause-wires
mux-requires-clause-wires c = (wire_adds _ _ c.in_ok-told.told c.in_ok-none.ensures.adds c.in_ok-told.ensures.wire.0, c.in_ok-none.ensures.wire.0)

pub returns-clause-value : goal.returns-clause-value
returns-clause-value c = rest_tells _ _ _ _ _ c.args.bytes c.args.table.now c.args.carries c.args.size c.in_ok-index.index c.in_ok-told.told c.in_ok-none.none c.in_ok-wire.wire
    c.in_ok-index.ensures.adds c.in_ok-told.ensures.adds c.in_ok-none.ensures.adds c.in_ok-wire.ensures.adds c.requires.table c.requires.size
    (omega (arith, c.max.ensures, c.in_ok-index.ensures.wire.1)) c.in_ok-index.ensures.keeps c.in_ok-told.ensures.value c.in_ok-none.ensures.value c.in_ok-wire.ensures.value
