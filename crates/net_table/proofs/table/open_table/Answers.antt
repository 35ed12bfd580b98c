use Rattle.net_build.proofs.OpenedLists.{all_distinct}
use Rattle.net_table.proofs.Opened.{begin_at_zero}
use Rattle.net_table.proofs.table.open_table.Goals as goal

pub returns-clause-table : goal.returns-clause-table
returns-clause-table c =
    let e = c.in_ok-registers.ensures in
    record { long = e.long; entries = e.entries; undriven = e.undriven; distinct = all_distinct _ _ c.in_ok-registers.registers e.opens }

pub returns-clause-begins : goal.returns-clause-begins
returns-clause-begins c = begin_at_zero _ c.in_ok-registers.registers c.in_ok-registers.ensures.undriven
