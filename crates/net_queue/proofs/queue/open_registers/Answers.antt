use Rattle.net_build.proofs.OpenedLists.{all_distinct, widths_later}
use Rattle.net_build.proofs.Steps.{bit_later, bit_made, later_later}
use Rattle.net_queue.proofs.Opening.{opens_four, undriven_four}
use Rattle.net_queue.proofs.queue.open_registers.Goals as goal

pub returns-clause-opens : goal.returns-clause-opens
returns-clause-opens c = opens_four _ _ _ _ _ c.in_ok-valid.valid c.in_ok-full.full c.in_ok-head.head c.in_ok-last.last c.in_ok-valid.ensures.opens c.in_ok-full.ensures.opens c.in_ok-head.ensures.opens c.in_ok-last.ensures.opens

pub returns-clause-undriven : goal.returns-clause-undriven
returns-clause-undriven c = undriven_four _ _ _ _ c.in_ok-valid.valid c.in_ok-full.full c.in_ok-head.head c.in_ok-last.last c.in_ok-valid.ensures.undriven c.in_ok-full.ensures.opens c.in_ok-full.ensures.undriven c.in_ok-head.ensures.opens c.in_ok-head.ensures.undriven c.in_ok-last.ensures.opens c.in_ok-last.ensures.undriven

pub returns-clause-distinct : goal.returns-clause-distinct
returns-clause-distinct c = all_distinct _ _ _ (opens_four _ _ _ _ _ c.in_ok-valid.valid c.in_ok-full.full c.in_ok-head.head c.in_ok-last.last c.in_ok-valid.ensures.opens c.in_ok-full.ensures.opens c.in_ok-head.ensures.opens c.in_ok-last.ensures.opens)

pub returns-clause-bits : goal.returns-clause-bits
returns-clause-bits c =
    let l = c.in_ok-last.ensures.opens.later in
    let h = later_later _ _ _ c.in_ok-head.ensures.opens.later l in
    let f = later_later _ _ _ c.in_ok-full.ensures.opens.later h in (
      bit_later _ _ c.in_ok-valid.valid f (bit_made _ c.in_ok-valid.valid c.in_ok-valid.ensures.wire.0 c.in_ok-valid.ensures.wire.1),
      bit_later _ _ c.in_ok-full.full h (bit_made _ c.in_ok-full.full c.in_ok-full.ensures.wire.0 c.in_ok-full.ensures.wire.1),
    )

pub returns-clause-wires : goal.returns-clause-wires
returns-clause-wires c = (widths_later _ _ c.args.widths.now c.in_ok-head.head c.in_ok-last.ensures.opens.later c.in_ok-head.ensures.wires, c.in_ok-last.ensures.wires)
