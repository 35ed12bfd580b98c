use Rattle.net_table.proofs.Opened.{all_become}
use Rattle.net_table.proofs.table.drive_registers.Goals as goal

pub returns-clause-becomes : goal.returns-clause-becomes
returns-clause-becomes c = all_become _ c.args.registers.now c.args.nexts.now c.requires.long c.in_ok-drive_all.ensures.take
