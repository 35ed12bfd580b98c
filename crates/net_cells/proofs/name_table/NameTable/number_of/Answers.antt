use Rattle.std.proofs.Common.{◌∙◌}
use Rattle.net_cells.proofs.NameTables.{number_told}
use Rattle.net_cells.proofs.name_table.NameTable.number_of.Goals as goal

pub returns : goal.returns
returns c = number_told c.self.inside.numbers c.args.self.now c.args.name.now c.copied.result (c.copied.ensures ∙ c.get.ensures.value) c.self.view_is
