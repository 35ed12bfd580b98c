use Rattle.net_cells.proofs.NameTables.{set_told}
use Rattle.net_cells.proofs.name_table.NameTable.set.Goals as goal

pub returns-clause-ok : goal.returns-clause-ok
returns-clause-ok c =
    set_told c.self.inside.numbers c.insert.new.self c.args.self.now c.in_ok-key.key c.args.name.now c.args.number c.in_ok-key.ensures.items c.self.view_is c.in_ok-insert.ensures.updates
