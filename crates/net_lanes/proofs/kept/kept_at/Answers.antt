use Rattle.net_build.proofs.Steps.{adds_adds, bit_adds, bit_made, wire_adds}
use Rattle.net_lanes.proofs.Counted.{kept_means, known_tells}
use Rattle.net_lanes.proofs.kept.kept_at.Goals as goal

pub select-requires-2-clause-wire : goal.select-requires-2-clause-wire
select-requires-2-clause-wire c = wire_adds _ _ c.in_ok-entry.entry c.in_ok-known.ensures.adds c.in_ok-entry.ensures.wire.0

pub returns-clause-adds : goal.returns-clause-adds
returns-clause-adds c = adds_adds _ _ _ (adds_adds _ _ _ c.in_ok-entry.ensures.adds c.in_ok-known.ensures.adds) c.in_ok-address.ensures.adds

pub returns-clause-known : goal.returns-clause-known
returns-clause-known c = (
  bit_adds _ _ c.in_ok-known.known c.in_ok-address.ensures.adds (bit_made _ c.in_ok-known.known c.in_ok-known.ensures.wire.0 c.in_ok-known.ensures.wire.1),
  known_tells _ _ _ c.in_ok-entry.entry c.in_ok-known.known _ c.in_ok-entry.ensures.wire.0 c.in_ok-entry.ensures.wire.1 c.in_ok-known.ensures.adds c.in_ok-address.ensures.adds c.in_ok-entry.ensures.value c.in_ok-known.ensures.value,
)

pub returns-clause-address : goal.returns-clause-address
returns-clause-address c = (
  c.in_ok-address.ensures.wire.0,
  c.in_ok-address.ensures.wire.1,
  kept_means _ _ _ c.in_ok-entry.entry c.in_ok-address.address _ c.in_ok-known.ensures.adds c.in_ok-address.ensures.adds c.in_ok-entry.ensures.value c.in_ok-address.ensures.value,
)
