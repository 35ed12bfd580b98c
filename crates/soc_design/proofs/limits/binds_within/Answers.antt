use Rattle.std.proofs.Common.{◌≡◌, ◌∙◌, ap, sym, length}
use Rattle.toml.specs.View.{table_view}
use Rattle.soc_design.specs.Reading.{binds_in}
use Rattle.toml_shape.proofs.Counting.{count-items_view}
use Rattle.soc_design.proofs.limits.binds_within.Goals as goal
use Rattle.toml_shape.specs.Entries.{count}

pub returns-in-None-clause-few : goal.returns-in-None-clause-few
returns-in-None-clause-few c =
    let n : count (binds_in (table_view c.args.table.now)) ≡ length c.tables_in.result.now =
    ap count (sym c.tables_in.ensures) ∙ count-items_view c.tables_in.result.now in
    rw n c.in-None.ensures.few
