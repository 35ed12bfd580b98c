use Rattle.std.proofs.Common.{◌≡◌, ◌∙◌, ap, sym, length}
use Rattle.toml.specs.View.{table_view}
use Rattle.soc_design.specs.Reading.{nodes_in}
use Rattle.toml_shape.proofs.Counting.{count-items_view}
use Rattle.soc_design.proofs.limits.nodes_within.Goals as goal
use Rattle.toml_shape.specs.Entries.{count}

pub returns-clause-few : goal.returns-clause-few
returns-clause-few c =
    let n : count (nodes_in (table_view c.args.table.now)) ≡ length c.tables_in.result.now =
    ap count (sym c.tables_in.ensures) ∙ count-items_view c.tables_in.result.now in
    rw n c.limited_nodes.ensures.few

pub returns-clause-counted : goal.returns-clause-counted
returns-clause-counted c =
    let n : count (nodes_in (table_view c.args.table.now)) ≡ length c.tables_in.result.now =
    ap count (sym c.tables_in.ensures) ∙ count-items_view c.tables_in.result.now in
    rw n c.limited_nodes.ensures.counted
