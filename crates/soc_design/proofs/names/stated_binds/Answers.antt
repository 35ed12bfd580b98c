use Rattle.std.proofs.Common.{◌≡◌, ◌∙◌, ap, sym, length, arith}
use Rattle.toml.specs.View.{table_view}
use Rattle.soc_design.specs.Reading.{binds_in}
use Rattle.toml_shape.proofs.Counting.{count-items_view}
use Rattle.soc_design.proofs.names.stated_binds.Goals as goal
use Rattle.toml_shape.specs.Entries.{count}

pub returns-clause-counted : goal.returns-clause-counted
returns-clause-counted c =
    let n : count (binds_in (table_view c.args.table.now)) ≡ length c.tables_in-tables.result.now =
    ap count (sym c.tables_in-tables.ensures) ∙ count-items_view c.tables_in-tables.result.now in
    omega arith
