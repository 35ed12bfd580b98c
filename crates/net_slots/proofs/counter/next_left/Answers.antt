use Rattle.net_build.proofs.Steps.{adds_adds, bit_adds, wire_adds}
use Rattle.net_slots.proofs.Counted.{left_means}
use Rattle.net_slots.proofs.counter.next_left.Goals as goal

pub mux-requires-2-clause-pick : goal.mux-requires-2-clause-pick
mux-requires-2-clause-pick c = bit_adds _ _ c.args.go (adds_adds _ _ _ c.in_ok-one.ensures.adds (adds_adds _ _ _ c.in_ok-less.ensures.adds c.in_ok-begun.ensures.adds)) c.requires.bits.1

pub mux-requires-2-clause-wires : goal.mux-requires-2-clause-wires
mux-requires-2-clause-wires c = (c.in_ok-begun.ensures.wire.0, wire_adds _ _ c.args.left (adds_adds _ _ _ c.in_ok-one.ensures.adds (adds_adds _ _ _ c.in_ok-less.ensures.adds c.in_ok-begun.ensures.adds)) c.requires.wires.0)

pub returns-clause-value : goal.returns-clause-value
returns-clause-value c = left_means _ _ _ _ _ c.args.left c.args.idle c.args.go c.args.rest c.in_ok-one.one c.in_ok-less.less c.in_ok-begun.begun c.in_ok-next.next c.in_ok-one.ensures.adds c.in_ok-less.ensures.adds c.in_ok-begun.ensures.adds c.in_ok-next.ensures.adds c.requires.wires.0 c.requires.idle c.in_ok-one.ensures.value c.in_ok-less.ensures.value c.in_ok-begun.ensures.value c.in_ok-next.ensures.value
