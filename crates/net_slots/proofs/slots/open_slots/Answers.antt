use Rattle.net_build.proofs.Steps.{later_later, wire_later}
use Rattle.net_queue.proofs.Opening.{opens_four, undriven_four}
use Rattle.net_slots.proofs.Cycles.{sized_later}
use Rattle.net_table.proofs.Indexed.{entries_later}
use Rattle.net_slots.proofs.slots.open_slots.Goals as goal

pub returns-clause-opens : goal.returns-clause-opens
returns-clause-opens c = opens_four _ _ _ _ _ c.in_ok-id.id c.in_ok-asking.asking c.in_ok-taken.taken c.in_ok-olds.olds c.in_ok-id.ensures.opens c.in_ok-asking.ensures.opens c.in_ok-taken.ensures.opens c.in_ok-olds.ensures.opens

pub returns-clause-undriven : goal.returns-clause-undriven
returns-clause-undriven c = undriven_four _ _ _ _ c.in_ok-id.id c.in_ok-asking.asking c.in_ok-taken.taken c.in_ok-olds.olds c.in_ok-id.ensures.undriven c.in_ok-asking.ensures.opens c.in_ok-asking.ensures.undriven c.in_ok-taken.ensures.opens c.in_ok-taken.ensures.table.undriven c.in_ok-olds.ensures.opens c.in_ok-olds.ensures.table.undriven

pub returns-clause-shape : goal.returns-clause-shape
returns-clause-shape c =
    let l3 = c.in_ok-olds.ensures.opens.later in
    let l2 = later_later _ _ _ c.in_ok-taken.ensures.opens.later l3 in
    let l1 = later_later _ _ _ c.in_ok-asking.ensures.opens.later l2 in
    record {
      id = record { wire = wire_later _ _ c.in_ok-id.id l1 c.in_ok-id.ensures.wire.0; sized = c.in_ok-id.ensures.wire.1 };
      asking = record { wire = wire_later _ _ c.in_ok-asking.asking l2 c.in_ok-asking.ensures.wire.0; sized = c.in_ok-asking.ensures.wire.1 };
      taken = record { entries = entries_later _ _ 1 c.in_ok-taken.taken l3 c.in_ok-taken.ensures.table.entries; long = c.in_ok-taken.ensures.table.long };
      olds = record { entries = c.in_ok-olds.ensures.table.entries; long = c.in_ok-olds.ensures.table.long };
    }
