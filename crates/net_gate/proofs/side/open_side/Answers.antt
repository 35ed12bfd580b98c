use Rattle.net_gate.proofs.OpenedSides.{opened_all, opened_shape, waiting_all}
use Rattle.net_gate.proofs.side.open_side.Goals as goal

pub returns-clause-opens : goal.returns-clause-opens
returns-clause-opens c = opened_all _ _ _ _ c.in_ok-left.left c.in_ok-mine.mine c.in_ok-late.late c.in_ok-left.ensures.opens c.in_ok-mine.ensures.opens c.in_ok-late.ensures.opens

pub returns-clause-undriven : goal.returns-clause-undriven
returns-clause-undriven c = waiting_all _ _ _ c.in_ok-left.left c.in_ok-mine.mine c.in_ok-late.late c.in_ok-mine.ensures.opens c.in_ok-late.ensures.opens c.in_ok-left.ensures.undriven c.in_ok-mine.ensures.table.undriven c.in_ok-late.ensures.table.undriven

pub returns-clause-shape : goal.returns-clause-shape
returns-clause-shape c = opened_shape _ _ _ c.args.round c.args.count c.args.wide _ c.in_ok-left.left c.in_ok-mine.mine c.in_ok-late.late c.in_ok-mine.ensures.opens.later c.in_ok-late.ensures.opens.later
    c.in_ok-left.ensures.wire.0 c.in_ok-left.ensures.wire.1 c.in_ok-mine.ensures.table.entries c.in_ok-mine.ensures.table.long c.in_ok-late.ensures.table.entries c.in_ok-late.ensures.table.long c.late_count.ensures
